-- The call with its contract.
pub mod Replace
