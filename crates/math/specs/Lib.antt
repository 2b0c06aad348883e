pub mod Complex
pub mod Sum
pub mod Parabola
