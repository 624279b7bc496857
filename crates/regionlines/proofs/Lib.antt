pub mod Told
pub mod Sections
pub mod Examples
