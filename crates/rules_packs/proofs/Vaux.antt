-- Laws of the VAUX blocks. Assumes nothing.
use Rattle.std.specs.Prelude.{Some}
use mathlib.Core.Path.{◌≡◌, refl, sym, ◌∙◌}
use mathlib.Core.Bool.{true, ◌&&◌}
use mathlib.Core.List.{List, [], ◌∷◌, ◌++◌}
use Prim.Native.Nat.{ℕ, ◌+◌, ◌-◌, ◌*◌, ◌/◌, ◌%◌, ◌<◌}
use native.Mathlib.Omega.{arith}
use lib.Dec.{eqb}
use lib.ListN.{length, length-append, drop}
use lib.Seq.{drop_at}
use borrow.Author.Tests.{eq-eqb, eqb-true}
use Rattle.base.specs.Pick.{pick}
use Rattle.base.specs.Run.{run, Wide}
use Rattle.base.proofs.Runs.{length_run}
use Rattle.base.proofs.Picks.{pick_either, both_held}
use Rattle.paper.specs.declared.System.{System}
use Rattle.paper.specs.declared.System.TheVariants.{I60, I50, P60, P50}
use Rattle.paper.specs.declared.Pack.{Pack}
use Rattle.rules_format.specs.Systems.{rate_of, stype_of, system_of}
use Rattle.rules_packs.specs.Packs.{pack_bytes}
use Rattle.rules_packs.specs.Vaux.{vs_at, vs_pack, vaux_pack, vaux_packs, vaux_bytes, vs_ok, Vs, vaux_in}
use Rattle.rules_packs.proofs.Packs.{part_pack}

-- ---- vs_pack, vs_ok

-- "PC3 bit 5 is 1 for 50 Hz, bits 4-0 are 14h (1080) or 18h (720)."
pub vs_rate : (y : System) → (vs_pack y).pc3 / 32 % 2 ≡ rate_of y
vs_rate I60 = refl
vs_rate I50 = refl
vs_rate P60 = refl
vs_rate P50 = refl

pub vs_1080 : ((vs_pack I60).pc3 % 32 ≡ 0x14) × ((vs_pack I50).pc3 % 32 ≡ 0x14)
vs_1080 = (refl, refl)

pub vs_720 : ((vs_pack P60).pc3 % 32 ≡ 0x18) × ((vs_pack P50).pc3 % 32 ≡ 0x18)
vs_720 = (refl, refl)

pub vs_means : (y : System) (p : Pack) → vs_ok y p ≡ true → Vs y p
vs_means y p e =
    let rate = eqb (p.pc3 / 32 % 2) (rate_of y) in
    let stype = eqb (p.pc3 % 32) (stype_of y) in
    let all = both_held (eqb p.pc0 0x60) (rate && stype) e in
    let two = both_held rate stype all.1 in
    record {
      header = eqb-true p.pc0 0x60 all.0;
      rate = eqb-true (p.pc3 / 32 % 2) (rate_of y) two.0;
      stype = eqb-true (p.pc3 % 32) (stype_of y) two.1;
    }

pub vs_when : (y : System) (p : Pack) → Vs y p → vs_ok y p ≡ true
vs_when y p h = rw (eq-eqb p.pc0 0x60 h.header, eq-eqb (p.pc3 / 32 % 2) (rate_of y) h.rate) (eq-eqb (p.pc3 % 32) (stype_of y) h.stype)

pub vs_written : (y : System) → vs_ok y (vs_pack y) ≡ true
vs_written I60 = refl
vs_written I50 = refl
vs_written P60 = refl
vs_written P50 = refl

-- rate and STYPE tell the four systems apart
told : (y : System) → system_of (rate_of y + (stype_of y - 0x14) / 2) ≡ Some y
unfolding system_of pick
told I60 = refl
told I50 = refl
told P60 = refl
told P50 = refl

pub vs_tells : (y z : System) → vs_ok y (vs_pack z) ≡ true → y ≡ z
vs_tells y z e =
    let mine = vs_means y (vs_pack z) e in
    let its = vs_means z (vs_pack z) (vs_written z) in
    let rate : rate_of y ≡ rate_of z = sym mine.rate ∙ its.rate in
    let stype : stype_of y ≡ stype_of z = sym mine.stype ∙ its.stype in
    let known : Some y ≡ Some z = sym (told y) ∙ rw (rate, stype) (told z) in
    cc

-- ---- vs_at

-- "VS is pack 39 in even sequences, 0 in odd"
module _ (q : ℕ) where
  pub vs_even : q % 2 ≡ 0 → vs_at q ≡ 39
  unfolding vs_at pick
  vs_even h = rw h refl

  pub vs_odd : q % 2 ≡ 1 → vs_at q ≡ 0
  unfolding vs_at pick
  vs_odd h = rw h refl

pub vs_below : (q : ℕ) → vs_at q + 1 < 45
unfolding vs_at
vs_below q = pick_either (λ (k : ℕ). k + 1 < 45) _ (omega arith) (omega arith)

-- ---- vaux_bytes

module _ (vs vsc : Pack) (q k : ℕ) where
  abbrev fifteen : ℕ → List ℕ
  fifteen j = pack_bytes (vaux_pack vs vsc q (15 * k + j))

  fifteen_wide : Wide 5 fifteen
  fifteen_wide j = refl

  pub vaux_length : length (vaux_bytes vs vsc q k) ≡ 77
  unfolding vaux_bytes vaux_packs
  vaux_length = length-append (run fifteen 15) (0xFF ∷ 0xFF ∷ []) ∙ rw (length_run 5 fifteen fifteen_wide 15) refl

  pub vaux_rest : drop 75 (vaux_bytes vs vsc q k) ≡ 0xFF ∷ 0xFF ∷ []
  unfolding vaux_bytes vaux_packs
  vaux_rest = drop_at (run fifteen 15) (0xFF ∷ 0xFF ∷ []) 75 (length_run 5 fifteen fifteen_wide 15)

  -- "45 packs, 15 to a block, five bytes each from byte 3"
  pub vaux_pack_lem : (id : List ℕ) (j : ℕ) → length id ≡ 3 → j < 15 → vaux_in (id ++ vaux_bytes vs vsc q k) (15 * k + j) ≡ vaux_pack vs vsc q (15 * k + j)
  unfolding vaux_bytes vaux_packs
  vaux_pack_lem id j three h = part_pack id (0xFF ∷ 0xFF ∷ []) 5 fifteen fifteen_wide 15 j three h 0 _ (omega arith) at
    where
      at : 3 + 5 * ((15 * k + j) % 15) ≡ 3 + (j * 5 + 0)
      at = omega arith
