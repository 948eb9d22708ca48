pub mod Levels
pub mod Days
pub mod BreakerState
