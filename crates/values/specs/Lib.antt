pub mod Bounds
pub mod Inserted
