pub mod Apart
pub mod Lines
pub mod Off
pub mod Order
pub mod Ticks
