mod Sinking
mod Indices
pub mod Laws
pub mod Keyed
