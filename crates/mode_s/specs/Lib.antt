pub mod Header
pub mod Counted
pub mod Corrected
pub mod Avr
pub mod Message
pub mod Inner
