pub mod Leads
pub mod Frontier
pub mod Standing
pub mod Answers
pub mod Units
pub mod Messages
pub mod Frontiers
