pub mod Lines
pub mod Reading
pub mod Texts
pub mod Crossed
pub mod Laws
pub mod InternalReading
pub mod InternalSending
