pub mod Written
pub mod Write
pub mod Refusals
pub mod Answering
pub mod Form
pub mod Headlines
