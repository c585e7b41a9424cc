pub mod Packs
pub mod Subcode
pub mod Vaux
pub mod Aaux
pub mod Written
pub mod Judged
pub mod InBytes
pub mod Headlines
