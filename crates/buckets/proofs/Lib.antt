pub mod Held
pub mod Built
mod Edited
pub mod Checked
mod Tried
