pub mod Flat
pub mod Lanes
pub mod Sieve
pub mod Exact
pub mod Inner
