pub mod Held
pub mod Results
