pub mod Book
pub mod Places
pub mod Queue
pub mod Taking
