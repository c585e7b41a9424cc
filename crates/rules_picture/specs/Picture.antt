-- Picture slots (document 01, "Picture slots").
use Rattle.std.specs.Prelude.{[], ◌∷◌, ℕ, ◌+◌, ◌-◌, ◌*◌, ◌/◌, ◌%◌, ltb, eqb, get_or, Option, Some, None}
use Rattle.base.specs.Pick.{pick}
use Rattle.paper.specs.declared.System.{System}
use Rattle.paper.specs.declared.System.TheVariants.{I60, I50, P60, P50}
use Rattle.paper.specs.declared.Slot.{Slot}

-- slot V(v) of sequence q of DIF channel h
abbrev pub slot : ℕ → ℕ → ℕ → Slot
slot h q v = record { channel = h; sequence = q; video = record { 0 = v } }

-- ---- what a slot carries

-- "Row is i + (2, 6, 8, 0, 4) by m"; "column (2, 1, 3, 0, 4) by m"
abbrev pub step_of : ℕ → ℕ
step_of m = get_or (2 ∷ 6 ∷ 8 ∷ 0 ∷ 4 ∷ []) m 0

abbrev pub column_of : ℕ → ℕ
column_of m = get_or (2 ∷ 1 ∷ 3 ∷ 0 ∷ 4 ∷ []) m 0

-- "With R rows the macroblock number is ((R·h + row)·5 + column)·27 + k.": R·h + row is given
abbrev pub macroblock : ℕ → ℕ → ℕ → ℕ
macroblock row column k = (row * 5 + column) * 27 + k

-- "V(5g+m), g 0-26, m 0-4, sequence q, z = 27q + g."
abbrev pub unit_of : ℕ → ℕ
unit_of v = v % 5

abbrev pub turn_of : ℕ → ℕ → ℕ
turn_of q v = 27 * q + v / 5

-- "Ten-row systems 0, 2, 3, q below 10: i = (4h + q div 5 + 2z) mod 10, k = (z div 5) mod 27."
abbrev pub ten_number : ℕ → ℕ → ℕ → ℕ → ℕ
ten_number h q z m = macroblock (10 * h + ((4 * h + q / 5 + 2 * z) % 10 + step_of m) % 10) (column_of m) (z / 5 % 27)

-- "System 1, q below 11: i = (4h + z) mod 11, k = z div 11."
abbrev pub eleven_number : ℕ → ℕ → ℕ → ℕ
eleven_number h z m = macroblock (11 * h + ((4 * h + z) % 11 + step_of m) % 11) (column_of m) (z / 11)

-- "Sequence 11 of channel 0 in system 1 is the edge unit: number 5,940 + 27m + g."
abbrev pub edge_number : ℕ → ℕ
edge_number v = 5940 + 27 * (v % 5) + v / 5

-- "Remaining slots (system 1: sequence 11 of channels 1-3; system 3: sequences 10, 11) carry none"
unfoldable pub ten_carries : ℕ → ℕ → ℕ → Option ℕ
ten_carries h q v = pick (ltb q 10) (Some (ten_number h q (turn_of q v) (unit_of v))) None

unfoldable pub eleven_carries : ℕ → ℕ → ℕ → Option ℕ
eleven_carries h q v =
    pick (ltb q 11) (Some (eleven_number h (turn_of q v) (unit_of v)))
    (pick (eqb q 11) (pick (eqb h 0) (Some (edge_number v)) None) None)

-- DIF channels are 0 to 3, slots V0 to V134
unfoldable pub within : (ℕ → ℕ → ℕ → Option ℕ) → Slot → Option ℕ
within f s = pick (ltb s.channel 4) (pick (ltb s.video.0 135) (f s.channel s.sequence s.video.0) None) None

-- by the system, and what a slot of it carries
abbrev pub carries_of : System → ℕ → ℕ → ℕ → Option ℕ
carries_of I60 = ten_carries
carries_of I50 = eleven_carries
carries_of P60 = ten_carries
carries_of P50 = ten_carries

abbrev pub carried_in : System → Slot → Option ℕ
carried_in y = within (carries_of y)

-- ---- back: the slot of a macroblock

-- the m of a column
abbrev pub unit_at : ℕ → ℕ
unit_at column = get_or (3 ∷ 1 ∷ 0 ∷ 2 ∷ 4 ∷ []) column 0

-- V(5g+m) of the sequence q, with z = 27q + g
abbrev pub slot_at : ℕ → ℕ → ℕ → Slot
slot_at h z m = slot h (z / 27) (5 * (z % 27) + m)

-- row less step is i; i - 4h is q div 5 + 2 (z mod 5)
abbrev pub ten_order : ℕ → ℕ → ℕ
ten_order b m = ((b / 135 % 10 + 10 - step_of m) % 10 + 6 * (b / 1350)) % 10

abbrev pub ten_turn : ℕ → ℕ → ℕ
ten_turn b j = 135 * (j % 2) + 5 * (b % 27) + j / 2

-- in eleven rows i - 4h is z mod 11
abbrev pub eleven_turn : ℕ → ℕ → ℕ
eleven_turn b m = 11 * (b % 27) + ((b / 135 % 11 + 11 - step_of m) % 11 + 7 * (b / 1485)) % 11

abbrev pub ten_slot : ℕ → Slot
ten_slot b = slot_at (b / 1350) (ten_turn b (ten_order b (unit_at (b / 27 % 5)))) (unit_at (b / 27 % 5))

abbrev pub eleven_slot : ℕ → Slot
eleven_slot b = slot_at (b / 1485) (eleven_turn b (unit_at (b / 27 % 5))) (unit_at (b / 27 % 5))

abbrev pub edge_slot : ℕ → Slot
edge_slot e = slot 0 11 (5 * (e % 27) + e / 27)

unfoldable pub ten_found : ℕ → Option Slot
ten_found b = pick (ltb b 5400) (Some (ten_slot b)) None

unfoldable pub eleven_found : ℕ → Option Slot
eleven_found b = pick (ltb b 5940) (Some (eleven_slot b)) (pick (ltb b 6075) (Some (edge_slot (b - 5940))) None)

-- the slot of macroblock b
abbrev pub carrier_of : System → ℕ → Option Slot
carrier_of I60 = ten_found
carrier_of I50 = eleven_found
carrier_of P60 = ten_found
carrier_of P50 = ten_found

-- what is carried where a macroblock lies
abbrev pub carried_by : (Slot → Option ℕ) → Option Slot → Option ℕ
carried_by f (Some s) = f s
carried_by f None = None
