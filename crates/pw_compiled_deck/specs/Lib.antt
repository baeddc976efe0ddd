pub mod Named
pub mod Short
pub mod Whole
