pub mod Orders
pub mod Unknowns
