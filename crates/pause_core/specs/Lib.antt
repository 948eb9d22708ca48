pub mod Phases
pub mod Pauses
pub mod Turns
