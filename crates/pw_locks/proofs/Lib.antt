pub mod Chaining
pub mod Holders
pub mod Order
pub mod Overlaps
pub mod Searching
pub mod Reaching
pub mod Registers
pub mod Walking
