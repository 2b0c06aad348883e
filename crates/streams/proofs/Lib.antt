pub mod Reading
pub mod Comparing
pub mod Parting
