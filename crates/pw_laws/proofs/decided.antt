pub mod Values
pub mod Verbs
pub mod Terminals
pub mod Classes
pub mod Causes
pub mod Pairs
pub mod Legality
pub mod Blocks
