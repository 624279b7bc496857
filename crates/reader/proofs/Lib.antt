pub mod LineCounts
pub mod Starts
pub mod Tails
pub mod Fits
pub mod Sections
pub mod Texts
pub mod Clearing
pub mod Examples
