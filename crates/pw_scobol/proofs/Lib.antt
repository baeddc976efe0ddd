pub mod Divided
pub mod Items
pub mod Linkage
pub mod Named
pub mod Parameters
