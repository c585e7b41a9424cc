-- The four systems (document 01, "The four systems").
use Rattle.std.specs.Prelude.{Bool, true, false, ◌||◌, List, [], ℕ, ◌*◌, ◌/◌, eqb, Option, Some, None}
use Rattle.base.specs.Calls.{Refusal}
use Rattle.base.specs.Pick.{pick}
use Rattle.paper.specs.declared.System.{System}
use Rattle.paper.specs.declared.System.TheVariants.{I60, I50, P60, P50}
use Rattle.paper.specs.declared.Counts.{Counts}

-- ---- "Each system brings its own four numbers."

-- sequences n of a DIF channel
abbrev pub sequences_of : System → ℕ
sequences_of I60 = 10
sequences_of I50 = 12
sequences_of P60 = 10
sequences_of P50 = 12

-- s = n/2, the sequences of an audio channel
unfoldable pub half_of : System → ℕ
half_of y = sequences_of y / 2

-- audio positions of an audio channel
abbrev pub positions_of : System → ℕ
positions_of I60 = 1620
positions_of I50 = 1944
positions_of P60 = 1620
positions_of P50 = 1944

-- sample counts
abbrev pub counts_of : System → Counts
counts_of I60 = record { fewer = 1600; more = 1602 }
counts_of I50 = record { fewer = 1920; more = 1920 }
counts_of P60 = record { fewer = 1600; more = 1602 }
counts_of P50 = record { fewer = 1920; more = 1920 }

-- one of the system's own counts
abbrev pub is_count : System → ℕ → Bool
is_count y k = eqb k (counts_of y).fewer || eqb k (counts_of y).more

abbrev pub macroblocks_of : System → ℕ
macroblocks_of I60 = 5400
macroblocks_of I50 = 6075
macroblocks_of P60 = 5400
macroblocks_of P50 = 5400

-- ---- what the packs say of a system

-- the rate's bit: 0 for 60 Hz, 1 for 50 Hz
abbrev pub rate_of : System → ℕ
rate_of I60 = 0
rate_of I50 = 1
rate_of P60 = 0
rate_of P50 = 1

-- STYPE of VS: 14h (1080) or 18h (720)
abbrev pub stype_of : System → ℕ
stype_of I60 = 0x14
stype_of I50 = 0x14
stype_of P60 = 0x18
stype_of P50 = 0x18

-- ---- the system's number

unfoldable pub system_of : ℕ → Option System
system_of k = pick (eqb k 0) (Some I60) (pick (eqb k 1) (Some I50) (pick (eqb k 2) (Some P60) (pick (eqb k 3) (Some P50) None)))

abbrev pub number_of_system : System → ℕ
number_of_system I60 = 0
number_of_system I50 = 1
number_of_system P60 = 2
number_of_system P50 = 3

-- what is said of a system, and what stands in where there is none
abbrev pub in_system : {A : Type 0} → A → (System → A) → Option System → A
in_system none of (Some y) = of y
in_system none of None = none

abbrev pub is_no_system : Option System → Bool
is_no_system = in_system true (λ (y : System). false)

abbrev pub sequences_in : Option System → ℕ
sequences_in = in_system 0 sequences_of

abbrev pub positions_in : Option System → ℕ
positions_in = in_system 0 positions_of

abbrev pub passes : (System → Bool) → Option System → Bool
passes = in_system false

-- the rows of a call's refusal table that want a known system
abbrev pub rows_in : Option System → (System → List Refusal) → List Refusal
rows_in s rows = in_system [] rows s

-- frame length: 48,000·n
abbrev pub frame_bytes : Option System → ℕ
frame_bytes s = 48000 * sequences_in s
