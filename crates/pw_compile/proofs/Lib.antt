mod Branches
mod Digits
pub mod Lengths
