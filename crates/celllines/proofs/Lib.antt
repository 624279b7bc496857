pub mod Told
pub mod Values
pub mod Sections
pub mod Whole
pub mod Examples
