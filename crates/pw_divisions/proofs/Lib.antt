pub mod Cuts
mod Texts
