pub mod Symbols
pub mod Inner
