-- Definitions.
pub mod Faults
