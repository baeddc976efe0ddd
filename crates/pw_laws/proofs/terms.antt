pub mod TermOk
pub mod Keeps
pub mod KeepsChecks
pub mod KeepsEnds
pub mod KeepsPairs
pub mod KeepsUnits
