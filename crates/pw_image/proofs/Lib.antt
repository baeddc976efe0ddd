pub mod Appending
pub mod Between
pub mod Forms
pub mod ImageForms
pub mod Loop
pub mod Patching
