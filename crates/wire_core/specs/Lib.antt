pub mod Fields
pub mod Names
pub mod Frames
pub mod ResultSteps
pub mod OptionSteps
