pub mod Slices
pub mod Undecided
pub mod Inner
