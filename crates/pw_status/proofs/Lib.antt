pub mod Attempting
mod Beginning
mod Counted
pub mod Counting
mod Decks
pub mod Each
pub mod Ending
mod Endings
pub mod Few
pub mod Gone
pub mod Known
pub mod Numbering
mod Pushing
pub mod Running
pub mod Tallying
mod Telling
pub mod Waiting
mod WatchCounting
mod Words
