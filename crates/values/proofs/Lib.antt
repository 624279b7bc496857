pub mod Percent
pub mod Parts
pub mod Folds
pub mod Signs
pub mod Insertion
pub mod Numbers
pub mod LeastBy
pub mod Quarters
