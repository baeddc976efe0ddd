pub mod Deck
pub mod Worked
pub mod logs
pub mod Refused
