pub mod Actors
pub mod Guarded
pub mod Promises
pub mod Restarts
