pub mod Counting
pub mod Older
pub mod Failures
pub mod Owing
pub mod Few
pub mod Enough
