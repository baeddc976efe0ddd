pub mod Index
pub mod Resolved
pub mod Scope
pub mod Uses
pub mod Variables
