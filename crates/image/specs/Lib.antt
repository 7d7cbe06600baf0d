pub mod Blocks
pub mod Lawful
