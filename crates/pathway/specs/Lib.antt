pub mod Arguments
pub mod Commands
pub mod Decks
pub mod Schedules
pub mod Statuses
