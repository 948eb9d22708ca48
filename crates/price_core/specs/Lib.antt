pub mod Ranges
pub mod Absence
pub mod Rounding
pub mod Moves
