pub mod Blank
pub mod Cells
pub mod EntryLemmas
pub mod Examples
pub mod RowLines
pub mod Trimmed
pub mod Written
