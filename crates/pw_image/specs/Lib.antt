pub mod Counts
pub mod Format
pub mod Image
pub mod Reading
pub mod Records
pub mod Values
