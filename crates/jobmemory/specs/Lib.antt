pub mod Unread
pub mod ReadAs
