pub mod Answering
pub mod Carrying
pub mod Serving
pub mod Done
pub mod Seated
pub mod Changing
pub mod Filing
pub mod Taking
