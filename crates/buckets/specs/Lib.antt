pub mod Prefixes
pub mod Blocks
pub mod Builds
pub mod Buckets
