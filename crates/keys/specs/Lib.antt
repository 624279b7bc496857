pub mod Names
pub mod Held
pub mod Codes
pub mod Places
