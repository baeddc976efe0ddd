pub mod Answers
pub mod Events
pub mod Laws
pub mod Numbers
pub mod Printed
pub mod Schedule
pub mod Systems
