pub mod Showing
pub mod Reading
