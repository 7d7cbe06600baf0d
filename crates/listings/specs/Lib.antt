pub mod Indexes
pub mod Changes
pub mod Listings
