pub mod Cases
pub mod Picks
pub mod Below
pub mod Parts
pub mod Runs
pub mod Filling
pub mod Puts
