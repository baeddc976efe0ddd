pub mod Finds
pub mod Moves
pub mod Noting
pub mod Takes
