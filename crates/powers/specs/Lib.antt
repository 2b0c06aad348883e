pub mod Powers
pub mod Both
pub mod Around
