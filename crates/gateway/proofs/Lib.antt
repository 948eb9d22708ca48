pub mod Steps
pub mod Watching
pub mod Listings
