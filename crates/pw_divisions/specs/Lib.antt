pub mod Divided
pub mod Divisions
pub mod Entries
pub mod Names
pub mod Steps
