pub mod Kept
pub mod Steps
pub mod Failing
pub mod Runs
