pub mod Texts
pub mod Saving
