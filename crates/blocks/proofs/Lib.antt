pub mod Ways
pub mod Fitting
