mod BodyForms
mod CallRuns
mod Commits
mod Committing
mod Framing
pub mod Groups
pub mod Keeping
mod Logging
mod Opening
mod Orderly
mod Prefixes
mod Reading
mod Recovering
mod Restoring
mod Stages
