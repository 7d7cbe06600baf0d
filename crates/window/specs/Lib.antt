pub mod View
pub mod Lawful
