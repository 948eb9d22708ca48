pub mod Pending
pub mod Sending
pub mod Taken
pub mod Asking
pub mod Pieces
pub mod Streamed
