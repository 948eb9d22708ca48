pub mod Values
pub mod DecodesOnly
pub mod RoundTrip
pub mod FramesDiffer
