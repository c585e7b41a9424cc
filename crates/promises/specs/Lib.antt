-- What is promised: `Demand1`, `Demand2` and `Demand3` are the customer's demands, under his own words, `Unrecorded`, `Commentary` and `SpareBits` his
-- requests. `Refusals` is document 01's refusal table, call by call, `Form` every byte that the writer decides, `Contents` what it is lent. They are written
-- with the words of crate `paper` and know no definition that the library is built on but for the values of an ID's answer; crate `kept` has the theorems
-- that they are kept.
pub mod Contents
pub mod Refusals
pub mod Form
pub mod Demand1
pub mod Demand2
pub mod Demand3
pub mod Unrecorded
pub mod Commentary
pub mod SpareBits
