pub mod Failures
pub mod Running
