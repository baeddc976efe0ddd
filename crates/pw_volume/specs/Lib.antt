pub mod Crash
pub mod Life
pub mod MemDisk
