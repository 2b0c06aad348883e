pub mod Logarithm
pub mod Estimate
pub mod Inner
