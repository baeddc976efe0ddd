pub mod Known
pub mod Meets
pub mod Requests
pub mod Texts
pub mod Totals
