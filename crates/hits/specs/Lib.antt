pub mod Verdict
pub mod Said
pub mod Hits
pub mod Painted
pub mod Chosen
