pub mod Entries
pub mod Marks
pub mod Order
pub mod Pairs
pub mod Seats
pub mod Shadow
