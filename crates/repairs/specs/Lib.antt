pub mod Inner
pub mod Codes
