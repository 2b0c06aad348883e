pub mod Refusals
pub mod Peaks
pub mod Floors
pub mod Carriers
pub mod Maxima
