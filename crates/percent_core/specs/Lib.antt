pub mod Percentages
pub mod PriceBands
pub mod Keys
