pub mod Shapes
pub mod Buckets
pub mod Rows
pub mod Keyed
pub mod Holding
