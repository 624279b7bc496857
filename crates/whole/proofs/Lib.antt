pub mod Reports
pub mod Longest
