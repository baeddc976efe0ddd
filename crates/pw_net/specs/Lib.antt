pub mod Agreement
pub mod Ballot
pub mod Kept
pub mod Member
pub mod Rules
pub mod World
