-- Definitions.
pub mod Failures
