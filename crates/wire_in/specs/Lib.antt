pub mod Records
pub mod Refusals
pub mod Codes
pub mod Reading
pub mod Spelling
pub mod Cutting
pub mod Laws
pub mod Bases
