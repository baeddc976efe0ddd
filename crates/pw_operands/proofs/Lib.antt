pub mod Branches
pub mod Indexes
