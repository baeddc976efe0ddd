pub mod Index
pub mod Names
pub mod Texts
pub mod Words
