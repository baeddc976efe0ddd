pub mod NoStep
pub mod Read
