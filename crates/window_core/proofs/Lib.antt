pub mod Deals
pub mod Lasting
pub mod Leaves
pub mod Moves
pub mod Order
pub mod RepresentsCalls
pub mod Sums
