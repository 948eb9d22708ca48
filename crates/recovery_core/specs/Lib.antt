pub mod Ends
pub mod Origins
pub mod Damage
pub mod Starved
pub mod Waiting
pub mod Recoveries
pub mod Held
