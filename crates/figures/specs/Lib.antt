pub mod Indexes
pub mod Runs
pub mod Figures
pub mod Examples
pub mod Listed
