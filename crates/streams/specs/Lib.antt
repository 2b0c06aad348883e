pub mod Streams
pub mod Messages
pub mod Remainders
pub mod Distances
pub mod Headers
