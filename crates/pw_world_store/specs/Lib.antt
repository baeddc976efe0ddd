pub mod Calls
pub mod Each
pub mod Jobs
pub mod Keeps
pub mod Seats
pub mod Starting
