pub mod Laws
pub mod Hexadecimals
pub mod Pooling
pub mod Room
pub mod Bounds
pub mod Examples
