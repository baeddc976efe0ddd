pub mod Clerk
pub mod Numbered
pub mod Servers
pub mod Stock
