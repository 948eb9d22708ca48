pub mod Restoring
pub mod Served
