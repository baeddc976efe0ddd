pub mod FirstFault
pub mod Leads
pub mod Plain
