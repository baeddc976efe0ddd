pub mod Bytes
pub mod Cursor
pub mod Items
pub mod Literals
pub mod Tokens
