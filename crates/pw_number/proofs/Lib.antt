pub mod Powers
pub mod Quotients
pub mod Scales
pub mod Sizes
