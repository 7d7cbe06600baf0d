pub mod Copies
pub mod Messages
