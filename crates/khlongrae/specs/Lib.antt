pub mod Flat
pub mod Carriers
pub mod Headers
pub mod Inner
pub mod Addresses
pub mod Versions
