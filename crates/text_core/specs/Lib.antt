pub mod Words
pub mod Lines
pub mod Reading
pub mod Values
pub mod Laws
pub mod Streams
pub mod Translated
pub mod InternalStreams
