pub mod Counting
pub mod Finite
pub mod Keys
pub mod Halving
pub mod Zeros
pub mod Exact
