pub mod InternalKeeping
pub mod Safe
pub mod Ends
pub mod Written
pub mod Served
pub mod InternalServing
