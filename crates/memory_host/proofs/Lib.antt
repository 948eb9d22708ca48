pub mod Asked
mod Requested
mod Pushed
mod Remembered
mod Replayed
mod Answered
