pub mod Prices
pub mod Runs
pub mod ReferenceState
