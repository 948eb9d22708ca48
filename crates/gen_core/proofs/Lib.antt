pub mod Numbers
pub mod Listed
pub mod Behind
pub mod Ranges
pub mod Given
pub mod Reciprocals
pub mod Sending
pub mod Counting
