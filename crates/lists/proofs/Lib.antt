pub mod Test
pub mod Tree
pub mod Table
pub mod Fold
pub mod Xor
pub mod Bits
pub mod Members
pub mod Telling
