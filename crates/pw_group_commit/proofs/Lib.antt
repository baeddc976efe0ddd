mod Following
mod Grouping
mod Telling
mod Writing
