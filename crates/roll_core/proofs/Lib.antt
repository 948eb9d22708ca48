pub mod LastBlock
pub mod Adding
