pub mod Overwritten
pub mod Told
