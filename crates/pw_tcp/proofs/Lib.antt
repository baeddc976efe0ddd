pub mod Fitting
pub mod Known
pub mod Looking
pub mod Registers
pub mod Resting
pub mod Running
pub mod Waiting
