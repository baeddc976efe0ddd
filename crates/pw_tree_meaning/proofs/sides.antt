pub mod Holding
pub mod Readers
pub mod Pieces
