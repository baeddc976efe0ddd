pub mod Left
pub mod Refusals
pub mod Stores
pub mod Systems
