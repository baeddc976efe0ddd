pub mod Seats
pub mod Servers
