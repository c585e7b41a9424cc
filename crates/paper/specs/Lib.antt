-- `Paper` is document 01 in its own numbers, `Bytes` what it lays down inside the blocks: the words that the promises and all headlines are written with.
pub mod Paper
pub mod Bytes
pub mod Causes
