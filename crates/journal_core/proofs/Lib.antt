mod FrameLemmas
pub mod Marks
pub mod Images
pub mod OneList
pub mod Batches
pub mod Offsets
pub mod Places
pub mod Appended
pub mod Extending
mod AtGateLemmas
mod AheadLemmas
mod ScanLemmas
mod HeaderLemmas
pub mod Walking
pub mod Starts
mod Based
pub mod Readable
pub mod Finishing
