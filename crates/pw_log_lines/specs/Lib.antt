pub mod Fail
pub mod Grammar
pub mod Log
