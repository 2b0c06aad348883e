pub mod Outcome
pub mod Open
pub mod Sample
pub mod Alike
