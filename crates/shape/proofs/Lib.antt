pub mod Loads
pub mod Halves
pub mod Rooms
pub mod Leaves
pub mod Cuts
pub mod Lighter
