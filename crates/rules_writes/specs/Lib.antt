-- What a written frame holds, and the call with its contract.
pub mod Written
pub mod Write
