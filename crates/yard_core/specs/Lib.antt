pub mod Sums
pub mod Views
pub mod YardState
pub mod Steps
pub mod Seats
