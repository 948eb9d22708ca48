pub mod Known
pub mod Moments
pub mod Chains
pub mod Causes
pub mod Torns
mod Pieces
mod Written
mod Sending
