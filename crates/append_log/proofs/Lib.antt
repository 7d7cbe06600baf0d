mod Heads
mod Appending
mod Newest
mod Checked
