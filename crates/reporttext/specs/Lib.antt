pub mod Report
pub mod Reports
pub mod Shown
pub mod Longest
