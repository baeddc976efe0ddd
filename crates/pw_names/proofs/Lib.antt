pub mod Accepted
pub mod Branches
pub mod Firsts
pub mod Fitting
pub mod Noted
pub mod Right
pub mod Unflawed
