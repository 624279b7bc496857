pub mod Step
pub mod Emit
pub mod Knowing
pub mod Turns
pub mod Lent
pub mod Bands
