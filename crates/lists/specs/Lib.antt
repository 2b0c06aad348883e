pub mod From
pub mod Bits
pub mod Told
