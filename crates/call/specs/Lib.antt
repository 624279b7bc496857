pub mod Tables
pub mod Decides
