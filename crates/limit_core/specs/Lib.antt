pub mod Limits
pub mod Timers
