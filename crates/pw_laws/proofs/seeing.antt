pub mod FoundRecords
pub mod SameFiles
pub mod Seeing
pub mod Plays
pub mod CoveredKeys
