pub mod Deck
pub mod Parts
pub mod Sound
