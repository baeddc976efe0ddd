pub mod Entries
pub mod InState
pub mod NextStep
pub mod Refreshes
