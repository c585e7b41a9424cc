-- Time code and binary group packs, as they are judged (document 01, "Time code bytes PC1-PC4").
use Rattle.std.specs.Prelude.{Bool, ◌&&◌, ◌||◌, List, ℕ, ◌+◌, ◌*◌, ◌/◌, ◌%◌, ◌<◌, ◌≤◌, eqb, ltb, leb}
use Rattle.paper.specs.declared.System.{System}
use Rattle.paper.specs.declared.System.TheVariants.{I60, I50, P60, P50}
use Rattle.paper.specs.declared.Pack.{Pack}
use Rattle.rules_format.specs.Systems.{rate_of}
use Rattle.rules_packs.specs.Packs.{pack_of}

-- "units in the low nibble"; the tens in two or three bits above, which is four or eight values
abbrev pub units_in : ℕ → ℕ
units_in b = b % 16

abbrev pub value_in : ℕ → ℕ → ℕ
value_in values b = b / 16 % values * 10 + units_in b

-- "Units 0-9", and the value to `most`
abbrev pub digits_ok : ℕ → ℕ → ℕ → Bool
digits_ok values most b = ltb (units_in b) 10 && leb (value_in values b) most

-- "frames to 29 or 24"
abbrev pub last_frame : System → ℕ
last_frame I60 = 29
last_frame I50 = 24
last_frame P60 = 29
last_frame P50 = 24

-- "tens of frames bits 5-4 of PC1, of seconds and minutes bits 6-4 of PC2 and PC3, of hours bits 5-4 of PC4";
-- "seconds and minutes to 59, hours to 23"
abbrev pub clock_ok : System → Pack → Bool
clock_ok y p = digits_ok 4 (last_frame y) p.pc1 && (digits_ok 8 59 p.pc2 && (digits_ok 8 59 p.pc3 && digits_ok 4 23 p.pc4))

-- "Headers: 13h, 14h."
abbrev pub time_pack : List ℕ → Pack
time_pack bytes = pack_of 0x13 bytes

abbrev pub group_pack : List ℕ → Pack
group_pack bytes = pack_of 0x14 bytes

-- not 26: a time code pack has its header and right digits
abbrev pub time_ok : System → Pack → Bool
time_ok y p = eqb p.pc0 0x13 && clock_ok y p

-- "A binary group's four bytes may be anything."
abbrev pub group_ok : Pack → Bool
group_ok p = eqb p.pc0 0x14

-- "At 50 Hz bit 6 of PC1 is arbitrary: the writer takes only 1 (else 32)"
abbrev pub bit_taken : System → Pack → Bool
bit_taken y p = eqb (rate_of y) 0 || eqb (p.pc1 / 64 % 2) 1

unfoldable pub time_taken : System → Pack → Bool
time_taken y p = bit_taken y p && clock_ok y p

-- ---- the same in clauses

pub record Digits (values most b : ℕ) : Type 0 where
  pub units : units_in b < 10
  pub value : value_in values b ≤ most

pub record Clock (y : System) (p : Pack) : Type 0 where
  pub frames : Digits 4 (last_frame y) p.pc1
  pub seconds : Digits 8 59 p.pc2
  pub minutes : Digits 8 59 p.pc3
  pub hours : Digits 4 23 p.pc4
