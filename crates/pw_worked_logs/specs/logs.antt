pub mod Locks
pub mod Units
pub mod Takeovers
pub mod Losses
pub mod Servers
