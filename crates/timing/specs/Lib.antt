pub mod Subsample
pub mod Exact
pub mod Inner
