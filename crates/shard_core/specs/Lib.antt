pub mod Shares
pub mod Prefix
pub mod Parts
pub mod Block
pub mod Turns
pub mod Jobs
