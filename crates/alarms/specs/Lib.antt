pub mod Due
pub mod Bounds
