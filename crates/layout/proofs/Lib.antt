pub mod Reading
pub mod Placing
pub mod Saying
pub mod Refusing
