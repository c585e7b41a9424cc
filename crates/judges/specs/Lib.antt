pub mod Asked
pub mod Tests
