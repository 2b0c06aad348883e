pub mod Within
pub mod Steps
pub mod All
pub mod Cases
pub mod Agreeing
pub mod Carrying
