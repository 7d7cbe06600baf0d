mod Slots
mod Led
mod Turns
