pub mod Can
pub mod Verbs
