pub mod Bounds
pub mod CountSteps
pub mod Counting
pub mod Plain
pub mod Progress
pub mod RunLemmas
pub mod Sizes
pub mod SizesOfServers
mod Standing
pub mod Written
