pub mod Cases
pub mod AnyOrder
pub mod Laws
pub mod Examples
