pub mod Ruled
pub mod Picture
pub mod Slots
pub mod Headlines
