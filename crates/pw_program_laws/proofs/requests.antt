-- What is shown of requesters.
pub mod Follows
pub mod Runs
pub mod Forms
pub mod Screens
pub mod Statements
pub mod Programs
pub mod Units
pub mod Codes
