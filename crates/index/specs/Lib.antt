pub mod Messages
pub mod Searching
pub mod Stored
