pub mod Rules
pub mod Lookup
pub mod Coding
pub mod Naming
