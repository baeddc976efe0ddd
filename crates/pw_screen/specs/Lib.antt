pub mod Apart
pub mod Built
pub mod Clauses
pub mod Cells
pub mod Entries
pub mod Screens
pub mod Shown
