pub mod Resolved
pub mod Servers
