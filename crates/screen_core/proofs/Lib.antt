pub mod Few
pub mod Messages
pub mod Replays
pub mod Steps
pub mod Applying
pub mod Reading
pub mod Beginning
pub mod Ending
