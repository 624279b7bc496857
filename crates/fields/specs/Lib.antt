pub mod Field
pub mod Room
