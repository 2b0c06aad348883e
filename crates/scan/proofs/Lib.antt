pub mod Comparing
pub mod Rolled
pub mod Dividing
pub mod Starting
pub mod Packing
pub mod Keeping
pub mod Listing
pub mod Exacting
