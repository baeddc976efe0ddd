mod ApartLaws
mod Marks
mod Readings
pub mod Sound
mod Steps
