pub mod Bytes
pub mod Texts
