pub mod Records
pub mod Replayed
pub mod Lawful
