pub mod Known
pub mod Decimals
pub mod Writing
