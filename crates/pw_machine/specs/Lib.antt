pub mod Beside
pub mod Config
pub mod Replies
pub mod Stack
pub mod Statements
pub mod Views
