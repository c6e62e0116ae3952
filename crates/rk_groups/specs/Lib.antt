pub mod GroupObjects
pub mod Groups
