pub mod Cancelling
pub mod Classes
pub mod Queues
pub mod Requests
