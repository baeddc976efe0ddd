pub mod Shaped
pub mod Places
pub mod Initial
pub mod Cuts
pub mod Named
