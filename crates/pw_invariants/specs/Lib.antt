pub mod Bank
pub mod Invariants
pub mod Operations
pub mod Reports
pub mod Requests
pub mod Servers
pub mod Units
