pub mod Commits
pub mod Headline
pub mod InMemory
pub mod Kept
pub mod Ran
pub mod Runs
