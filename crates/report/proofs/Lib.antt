pub mod Lines
pub mod Printing
pub mod Shaped
pub mod Examples
