pub mod Calling
mod Comings
pub mod Counting
mod DiscRuns
mod Finding
mod Left
mod Lifting
pub mod Lifts
mod Outcomes
pub mod Runs
mod Starts
mod Stopping
mod WrittenRuns
