pub mod AheadState
pub mod Evaluating
pub mod Leading
pub mod RestingState
