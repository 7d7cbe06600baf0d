pub mod Records
pub mod Items
pub mod Searches
pub mod Ordered
