pub mod SingleEntries
