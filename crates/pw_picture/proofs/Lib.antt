pub mod Counts
pub mod DigitSymbols
pub mod Digits
pub mod Reading
pub mod RunLemmas
pub mod Tables
