-- The format's definitions in the paper's order; then what they are in document 01's own numbers, and its known places.
-- `Judging` is no rule of the paper: it serves the loops, and a reader of the rules can leave it out.
pub mod Systems
pub mod Places
pub mod Ids
pub mod Blocks
pub mod Samples
pub mod Sound
pub mod Faults
pub mod Stream
pub mod Reading
pub mod Judging
pub mod InNumbers
pub mod Known
