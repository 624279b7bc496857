pub mod Finite
pub mod Counts
pub mod Keys
