pub mod Deals
pub mod Calls
pub mod WindowState
pub mod Tallies
pub mod Leaving
pub mod Summed
