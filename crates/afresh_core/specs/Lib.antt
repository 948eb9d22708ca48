pub mod Contexts
pub mod Rounds
pub mod Ordered
