pub mod Systems
pub mod Premises
pub mod Answered
pub mod Tokens
