-- The faults of a frame in stream order, the records of a lent list, then a file a call with its contract.
-- `Noting` is no rule of the paper: it serves the loops, and a reader of the promises can leave it out.
pub mod FaultLists
pub mod Records
pub mod Noting
pub mod ReadId
pub mod Survey
pub mod View
pub mod Salvage
