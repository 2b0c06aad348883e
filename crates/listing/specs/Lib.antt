pub mod Fields
pub mod Lines
pub mod Windows
pub mod Letters
pub mod Determines
pub mod Inner
