pub mod Relaying
pub mod Making
pub mod Changing
pub mod Creating
