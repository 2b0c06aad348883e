pub mod Bit
pub mod Text
pub mod Correcting
pub mod Dividing
