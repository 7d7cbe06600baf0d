mod Relays
mod Naming
mod Writes
mod Stores
mod Heads
mod Empties
