pub mod Bound
pub mod Schedule
