pub mod Halving
pub mod Whole
