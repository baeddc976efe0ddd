pub mod Committing
mod Printing
mod Reading
