pub mod Beside
pub mod Laid
pub mod Sizes
