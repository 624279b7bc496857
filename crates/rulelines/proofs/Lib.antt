pub mod Told
pub mod Rooms
pub mod Pools
pub mod RuleSections
pub mod Examples
