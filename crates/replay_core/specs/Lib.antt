pub mod Replayed
pub mod InternalSession
pub mod InternalKeeping
