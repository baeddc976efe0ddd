pub mod Commands
mod Entering
pub mod Good
mod Lines
pub mod Named
mod Noted
mod Sections
mod Settled
