-- The header block: what is written, and what is judged (document 01, "Header").
use Rattle.std.specs.Prelude.{Bool, List, ◌∷◌, ℕ, ◌+◌, ◌*◌, ◌/◌, eqb, get_or, replicate}
use Rattle.paper.specs.declared.System.{System}
use Rattle.rules_format.specs.Systems.{rate_of}

-- ---- what is written

-- "Byte 3: bit 7 DSF (0 for 60 Hz), bit 6 zero."
abbrev pub rate_byte : System → ℕ
rate_byte y = rate_of y * 0x80 + 0x3F

-- "APT, AP1, AP2, AP3 in bits 2-0, written 111."
abbrev pub application : ℕ
application = 7

-- "Bytes 5, 6, 7: bit 7 is TF1 .., TF2 .., TF3 ..; .. 0 is written."
abbrev pub flag_byte : ℕ
flag_byte = 0x78 + application

-- bytes 3 to 79
unfoldable pub header_bytes : System → List ℕ
header_bytes y = rate_byte y ∷ (0xF8 + application) ∷ flag_byte ∷ flag_byte ∷ flag_byte ∷ replicate 72 0xFF

-- ---- what is judged

-- not 21: a header's DSF agrees
abbrev pub dsf_ok : System → List ℕ → Bool
dsf_ok y block = eqb (get_or block 3 0 / 128) (rate_of y)

-- 23: a header sets TF1, TF2 or TF3, by its number
abbrev pub flagged : ℕ → List ℕ → Bool
flagged k block = eqb (get_or block (4 + k) 0 / 128) 1
