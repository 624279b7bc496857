pub mod Computing
pub mod Printed
pub mod Colours
pub mod Shown
pub mod Painted
pub mod Runs
pub mod Jobs
pub mod Longest
