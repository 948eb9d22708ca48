pub mod Merged
pub mod Weaving
