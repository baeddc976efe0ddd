pub mod Damage
pub mod Extents
pub mod Plans
pub mod Summed
pub mod Sums
