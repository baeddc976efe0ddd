pub mod attempts
pub mod legal
pub mod locking
pub mod progress
pub mod runs
pub mod serial
