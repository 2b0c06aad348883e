mod Halves
pub mod Exactly
pub mod Turning
mod Keeping
pub mod Reach
mod Reading
pub mod Laws
pub mod Moving
pub mod Valued
pub mod Cases
