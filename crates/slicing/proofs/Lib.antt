pub mod Slicing
pub mod Counting
pub mod Joining
