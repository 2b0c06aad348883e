pub mod Tries
pub mod Inner
pub mod InnerSearches
