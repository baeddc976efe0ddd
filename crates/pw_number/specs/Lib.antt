pub mod Arithmetic
pub mod Number
pub mod Order
pub mod Sign
