pub mod Due
pub mod Fails
pub mod Keywords
pub mod Line
pub mod Parsing
pub mod Reading
