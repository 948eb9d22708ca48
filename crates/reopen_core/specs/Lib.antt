pub mod Collars
pub mod Trials
pub mod Calls
pub mod AuctionState
