pub mod Packs
pub mod Header
pub mod Subcode
pub mod TimeCode
pub mod Vaux
pub mod Aaux
pub mod Repeated
pub mod InBytes
