pub mod Details
pub mod Watched
