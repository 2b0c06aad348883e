pub mod Meaning
mod Pattern
mod Squarings
mod Whole
mod Tests
pub mod Cases
