pub mod Texts
pub mod Listed
pub mod Ended
