pub mod Ends
pub mod EndsOnce
