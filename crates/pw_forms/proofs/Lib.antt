pub mod Cuts
pub mod Ends
mod Examples
pub mod Marks
pub mod Nested
pub mod Steps
pub mod Turns
