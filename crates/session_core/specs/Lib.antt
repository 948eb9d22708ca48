pub mod Dates
pub mod CivilDates
pub mod Moments
pub mod Durations
pub mod Times
