-- What an edit of this crate's definitions is refused by: the rows that the Recommendation prints, and the slots in document 01's own numbers. Assumes nothing.
use lib.Dec.{T}
use Rattle.rules_picture.specs.Rows.{rows_agree, printed_rows}
use Rattle.rules_picture.specs.Slots.{SlotsInNumbers}
use Rattle.rules_picture.proofs.Picture.{rows_agree_lem}
use Rattle.rules_picture.proofs.Slots.{slots_are}

pub printed_rows_lem : T (rows_agree printed_rows)
printed_rows_lem = rows_agree_lem

pub slots_in_numbers : SlotsInNumbers
slots_in_numbers = slots_are
