pub mod Repairable
pub mod Tables
pub mod Hash
pub mod Inner
pub mod InnerLent
