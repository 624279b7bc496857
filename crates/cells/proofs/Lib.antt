pub mod Laws
pub mod Standing
pub mod Search
pub mod Operands
