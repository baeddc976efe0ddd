pub mod Changing
pub mod Staying
pub mod Ending
