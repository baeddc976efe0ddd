pub mod Requesters
pub mod Resolved
pub mod Using
