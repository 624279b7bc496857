pub mod Told
pub mod Heads
pub mod WorkedHead
