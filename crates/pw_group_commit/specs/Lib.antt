pub mod Discs
pub mod Followed
pub mod Grouped
pub mod Lines
