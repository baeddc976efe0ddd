pub mod Objects
pub mod Pieces
pub mod Tables
pub mod Unknown
