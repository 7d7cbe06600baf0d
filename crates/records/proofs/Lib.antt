pub mod Itemized
pub mod Halved
pub mod Kept
pub mod Rising
pub mod Alike
