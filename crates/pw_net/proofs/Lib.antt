mod Sent
mod Standings
mod Kept
mod Moves
mod Replies
mod Worlds
mod Events
pub mod Agrees
