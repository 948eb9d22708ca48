pub mod Reported
pub mod InternalReport
