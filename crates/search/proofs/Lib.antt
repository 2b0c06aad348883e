pub mod Passing
pub mod Scanning
pub mod Choosing
pub mod Staging
pub mod Marks
pub mod Locating
pub mod Told
