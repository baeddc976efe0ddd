pub mod Inputs
pub mod Numbers
pub mod Outputs
