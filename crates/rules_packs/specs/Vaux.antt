-- The VAUX blocks (document 01, "VAUX").
use Rattle.std.specs.Prelude.{◌≡◌, Bool, ◌&&◌, List, [], ◌∷◌, ◌++◌, ℕ, ◌+◌, ◌*◌, ◌/◌, ◌%◌, eqb}
use Rattle.base.specs.Pick.{pick}
use Rattle.base.specs.Run.{run}
use Rattle.paper.specs.declared.System.{System}
use Rattle.paper.specs.declared.Pack.{Pack}
use Rattle.rules_format.specs.Systems.{rate_of, stype_of}
use Rattle.rules_packs.specs.Packs.{pack_in, pack_bytes, ones_after, pair_at}

-- "VS is pack 39 in even sequences, 0 in odd"
unfoldable pub vs_at : ℕ → ℕ
vs_at q = pick (eqb (q % 2) 0) 39 0

-- ---- what is written

-- "VS: 60h, FFh, FFh, PC3, FFh; PC3 bit 5 is 1 for 50 Hz, bits 4-0 are 14h (1080) or 18h (720)."
abbrev pub vs_pack : System → Pack
vs_pack y = record { pc0 = 0x60; pc1 = 0xFF; pc2 = 0xFF; pc3 = 0xC0 + rate_of y * 0x20 + stype_of y; pc4 = 0xFF }

-- "VSC: 61h, four FFh."
abbrev pub vsc_pack : Pack
vsc_pack = ones_after 0x61

-- pack k of the 45 of sequence q: "VSC follows it"
abbrev pub vaux_pack : Pack → Pack → ℕ → ℕ → Pack
vaux_pack vs vsc q k = pair_at (vs_at q) vs vsc k

-- those of VA(k): "45 packs, 15 to a block, five bytes each from byte 3"
unfoldable pub vaux_packs : Pack → Pack → ℕ → ℕ → List ℕ
vaux_packs vs vsc q k = run (λ (j : ℕ). pack_bytes (vaux_pack vs vsc q (15 * k + j))) 15

-- bytes 3 to 79 of VA(k)
unfoldable pub vaux_bytes : Pack → Pack → ℕ → ℕ → List ℕ
vaux_bytes vs vsc q k = vaux_packs vs vsc q k ++ 0xFF ∷ 0xFF ∷ []

-- ---- what is judged

-- not 22: "some VS disagrees in 60h, rate or STYPE"
abbrev pub vs_ok : System → Pack → Bool
vs_ok y p = eqb p.pc0 0x60 && (eqb (p.pc3 / 32 % 2) (rate_of y) && eqb (p.pc3 % 32) (stype_of y))

pub record Vs (y : System) (p : Pack) : Type 0 where
  pub header : p.pc0 ≡ 0x60
  pub rate : p.pc3 / 32 % 2 ≡ rate_of y
  pub stype : p.pc3 % 32 ≡ stype_of y

-- the block of VAUX that holds pack k, and the pack in it
abbrev pub vaux_block : ℕ → ℕ
vaux_block k = k / 15

abbrev pub vaux_in : List ℕ → ℕ → Pack
vaux_in block k = pack_in block (3 + 5 * (k % 15))
