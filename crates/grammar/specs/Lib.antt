pub mod Gram
pub mod Parts
pub mod Numbers
