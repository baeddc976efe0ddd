pub mod Deciding
pub mod Awaiting
pub mod Living
pub mod Servers
pub mod Terminals
pub mod Unstuck
