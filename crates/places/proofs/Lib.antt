pub mod Steps
pub mod Bounds
pub mod Walking
pub mod Table
pub mod InOrder
pub mod Finding
pub mod Reaching
pub mod Examples
