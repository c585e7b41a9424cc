-- A file a call with its contract; `Strict` has the reads of one frame together.
pub mod Check
pub mod Audio
pub mod Macroblock
pub mod Time
pub mod Strict
