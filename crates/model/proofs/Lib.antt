pub mod Finds
pub mod Numbers
mod Climbs
pub mod Indexing
pub mod Entries
pub mod Space
pub mod Facts
mod Changes
pub mod Renames
pub mod Kept
mod Runs
mod Leases
mod Given
pub mod Register
