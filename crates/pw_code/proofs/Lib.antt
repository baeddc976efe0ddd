pub mod Codes
pub mod CourseLemmas
pub mod NameLemmas
pub mod PathLemmas
pub mod Uppers
