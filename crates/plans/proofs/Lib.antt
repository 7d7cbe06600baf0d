pub mod Puts
pub mod Places
pub mod Choosing
pub mod Merges
pub mod Climbs
pub mod Counts
pub mod Plans
pub mod Edits
