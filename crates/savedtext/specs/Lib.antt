pub mod Saved
pub mod Alike
pub mod Typed
pub mod Resaved
