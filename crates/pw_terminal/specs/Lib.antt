pub mod Entries
pub mod Screen
pub mod Shown
