pub mod Timely
pub mod Histories
