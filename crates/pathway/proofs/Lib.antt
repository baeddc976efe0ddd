pub mod Turns
pub mod Source
pub mod Outputs
