pub mod Changes
pub mod Lists
pub mod Lookups
pub mod Nearest
pub mod Places
pub mod RecordLemmas
