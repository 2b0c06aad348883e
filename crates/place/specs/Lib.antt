pub mod Step
pub mod All
pub mod Agrees
