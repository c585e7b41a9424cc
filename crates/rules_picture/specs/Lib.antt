pub mod Picture
pub mod Rows
pub mod Slots
