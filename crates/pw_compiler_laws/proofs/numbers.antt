pub mod Steps
pub mod Operands
pub mod Forms
pub mod Pieces
pub mod Sources
