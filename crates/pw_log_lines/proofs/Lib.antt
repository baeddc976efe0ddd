pub mod Numbered
mod Opened
