pub mod Blocks
pub mod Asked
