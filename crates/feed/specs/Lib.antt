pub mod Parts
pub mod Lines
pub mod Listing
pub mod Machine
pub mod Run
pub mod Statement
pub mod Inner
