pub mod Texts
pub mod Doubled
pub mod Answers
pub mod Examples
