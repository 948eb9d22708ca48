pub mod Pending
pub mod Taking
pub mod Outcomes
pub mod Asking
pub mod Ends
pub mod Answering
pub mod Streamed
