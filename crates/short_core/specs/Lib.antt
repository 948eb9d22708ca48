pub mod Restriction
pub mod ShortState
