pub mod Counts
pub mod Kept
pub mod Long
pub mod Plays
pub mod Texts
