pub mod Behind
pub mod Recovering
pub mod OneDamage
pub mod Held
mod Room
