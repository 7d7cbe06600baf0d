mod Written
pub mod Through
