pub mod EngineState
pub mod Rounds
pub mod Sessions
pub mod Answering
pub mod Serving
pub mod Unwritten
pub mod Ends
