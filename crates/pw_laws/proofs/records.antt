pub mod Images
pub mod RecordsOk
pub mod Withdrawn
pub mod OperationKept
pub mod Entries
pub mod Committed
