pub mod Decks
pub mod Finish
pub mod Folds
pub mod Good
pub mod Ranges
pub mod Sound
pub mod Tabled
