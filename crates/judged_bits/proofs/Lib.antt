pub mod Masked
pub mod Clear
