pub mod Pick
pub mod Run
pub mod Below
pub mod Put
pub mod Calls
