pub mod Actors
pub mod Calls
pub mod Causes
pub mod Images
pub mod Known
pub mod Members
pub mod Steps
