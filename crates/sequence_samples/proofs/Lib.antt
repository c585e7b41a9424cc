pub mod Between
pub mod Ways
