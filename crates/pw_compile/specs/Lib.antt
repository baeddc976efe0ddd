pub mod Conditions
pub mod Emitted
pub mod Operands
pub mod Plan
pub mod Programs
pub mod Sizes
pub mod Lengths
