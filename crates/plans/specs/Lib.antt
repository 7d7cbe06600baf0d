pub mod Locating
pub mod Planned
pub mod Merging
pub mod Editing
