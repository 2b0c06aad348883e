pub mod Sums
pub mod Finite
