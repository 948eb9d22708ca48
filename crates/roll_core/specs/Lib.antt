pub mod Rolled
pub mod InternalRoll
