pub mod Edited
pub mod Grammar
pub mod Room
pub mod Runs
pub mod Stored
pub mod Symbols
pub mod Text
