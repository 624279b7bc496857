pub mod Bytes
pub mod Names
pub mod Columns
pub mod Spelling
pub mod A1
