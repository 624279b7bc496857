pub mod Regions
pub mod Bars
pub mod Steps
pub mod Origins
pub mod Levels
pub mod Numbers
pub mod Jobs
