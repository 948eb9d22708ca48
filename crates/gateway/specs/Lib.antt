pub mod Rows
pub mod Readers
pub mod Listed
pub mod Tallies
pub mod Words
