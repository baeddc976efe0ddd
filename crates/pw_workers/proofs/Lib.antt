mod Asked
mod Claimed
mod Crossing
mod Same
mod Taken
