pub mod Places
pub mod Ways
pub mod Turns
