pub mod Faultless
pub mod Generated
pub mod Parts
