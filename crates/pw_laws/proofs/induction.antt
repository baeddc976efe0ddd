pub mod Runs
pub mod Served
pub mod Failed
pub mod Views
pub mod Moving
