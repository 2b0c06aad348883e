pub mod Placed
pub mod Clears
pub mod Listing
pub mod Owning
pub mod Owned
pub mod Picking
pub mod Asking
pub mod Lent
