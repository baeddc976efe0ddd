pub mod Blocks
pub mod Lines
pub mod Listing
pub mod Meaning
pub mod Numbers
pub mod ReadBack
