-- Known values, among them document 01's example: the line of a record and that of the totals. Assumes nothing.
use mathlib.Core.Path.{◌≡◌, refl}
use mathlib.Core.List.{[], ◌∷◌}
use Rattle.base.specs.Pick.{pick}
use Rattle.text.specs.Lines.{digits_in, decimal, fields_of, line_of}

known_zero : decimal 0 ≡ 0x30 ∷ []
unfolding decimal digits_in pick
known_zero = refl

known_ten : decimal 10 ≡ 0x31 ∷ 0x30 ∷ []
unfolding decimal digits_in pick
known_ten = refl

known_total : decimal 7200 ≡ 0x37 ∷ 0x32 ∷ 0x30 ∷ 0x30 ∷ []
unfolding decimal digits_in pick
known_total = refl

-- F, 1, 3, 22, 12
known_record : line_of 0x46 (1 ∷ 3 ∷ 22 ∷ 12 ∷ []) ≡ 0x46 ∷ 0x09 ∷ 0x31 ∷ 0x09 ∷ 0x33 ∷ 0x09 ∷ 0x32 ∷ 0x32 ∷ 0x09 ∷ 0x31 ∷ 0x32 ∷ 0x0A ∷ []
unfolding line_of fields_of decimal digits_in pick
known_record = refl

-- T, 1, 1
known_totals : line_of 0x54 (1 ∷ 1 ∷ []) ≡ 0x54 ∷ 0x09 ∷ 0x31 ∷ 0x09 ∷ 0x31 ∷ 0x0A ∷ []
unfolding line_of fields_of decimal digits_in pick
known_totals = refl

-- E, 2
pub known_refusal : line_of 0x45 (2 ∷ []) ≡ 0x45 ∷ 0x09 ∷ 0x32 ∷ 0x0A ∷ []
unfolding line_of fields_of decimal digits_in pick
known_refusal = refl
