mod Cuts
pub mod Fits
pub mod Gathers
pub mod Taken
pub mod Readback
