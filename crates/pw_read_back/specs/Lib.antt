pub mod ReadFrom
pub mod Runs
