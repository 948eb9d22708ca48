pub mod Calls
pub mod Ledgers
pub mod Effects
pub mod Requests
pub mod Memory
