pub mod Replace
pub mod Refusals
pub mod Answering
pub mod Replacing
pub mod Headlines
