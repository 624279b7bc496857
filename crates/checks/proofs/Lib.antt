pub mod Searching
pub mod Refusing
