pub mod Laws
pub mod Storing
pub mod Keeping
pub mod Examples
