pub mod Counts
pub mod Rounds
pub mod Trees
pub mod Keys
pub mod Finished
