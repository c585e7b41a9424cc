pub mod Channels
pub mod Ways
