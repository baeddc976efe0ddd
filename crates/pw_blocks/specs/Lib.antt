pub mod Blocks
pub mod Cuts
pub mod Packing
pub mod Seats
pub mod Splits
