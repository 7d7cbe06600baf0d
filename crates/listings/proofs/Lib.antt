mod Places
mod Rises
mod Indexed
mod Removals
mod Shown
mod Tells
mod Altered
mod Moved
mod Listed
pub mod Fair
