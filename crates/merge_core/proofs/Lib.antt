pub mod InOrder
pub mod Scanning
pub mod Woven
