pub mod Headline
pub mod Meaning
pub mod Replays
pub mod ReportedRuns
pub mod Trials
pub mod WrittenRuns
pub mod disc
pub mod recovery
