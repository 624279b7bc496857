pub mod Trimming
pub mod Scanning
