-- The ways out of the functions that judge and write packs. Assumes nothing.
use mathlib.Core.Path.{◌≡◌, refl, sym, ◌∙◌}
use mathlib.Core.Bool.{Bool, true, false, ◌&&◌, ◌||◌}
use mathlib.Core.List.{List}
use Prim.Native.Nat.{ℕ, ◌+◌, ◌*◌, ◌/◌, ◌%◌}
use lib.Dec.{eqb, ltb}
use Rattle.paper.specs.declared.System.{System}
use Rattle.paper.specs.declared.Pack.{Pack}
use Rattle.paper.specs.declared.SubcodePack.TheVariants.{NoPack}
use Rattle.rules_format.specs.Systems.{rate_of, stype_of, is_count}
use Rattle.rules_packs.specs.Packs.{no_pack, pair_at}
use Rattle.rules_packs.specs.Subcode.{kind_of}
use Rattle.rules_packs.specs.TimeCode.{time_pack, group_pack, digits_ok, last_frame, clock_ok, time_taken}
use Rattle.rules_packs.specs.Vaux.{vs_pack, vsc_pack, vs_ok}
use Rattle.rules_packs.specs.Aaux.{size_of, mode_of, as_pack, asc_pack, count_in, mode_in, is_mark, mode_ok, as_ok}
use Rattle.rules_packs.specs.Repeated.{repeated_of}
use Rattle.rules_packs.proofs.Subcode.{kind_none_first, kind_none_second}
use Rattle.rules_packs.proofs.Packs.{pair_source, pair_control, pair_none}

-- ---- judgements, by what the callees say

pub clock_way : (y : System) (p : Pack) (last : ℕ) → last ≡ last_frame y
    → (digits_ok 4 last p.pc1 && (digits_ok 8 59 p.pc2 && (digits_ok 8 59 p.pc3 && digits_ok 4 23 p.pc4))) ≡ clock_ok y p
clock_way y p last e = rw e refl

pub taken_way : (y : System) (p : Pack) (rate : ℕ) (clock : Bool) → rate ≡ rate_of y → clock ≡ clock_ok y p → ((eqb rate 0 || eqb (p.pc1 / 64 % 2) 1) && clock) ≡ time_taken y p
unfolding time_taken
taken_way y p rate clock er ec = rw (er, ec) refl

pub vs_judged : (y : System) (p : Pack) (pc3 rate stype : ℕ) → pc3 ≡ p.pc3 → rate ≡ rate_of y → stype ≡ stype_of y
    → (eqb p.pc0 0x60 && (eqb (pc3 / 32 % 2) rate && eqb (pc3 % 32) stype)) ≡ vs_ok y p
vs_judged y p pc3 rate stype b er es = rw (b, er, es) refl

pub as_judged : (y : System) (c : ℕ) (p : Pack) (count rate mode pc3 : ℕ) (own said : Bool) → count ≡ count_in p → own ≡ is_count y count → rate ≡ rate_of y → mode ≡ mode_in p → said ≡ mode_ok c mode → pc3 ≡ p.pc3
    → (eqb p.pc0 0x50 && (ltb p.pc1 128 && (own && (ltb p.pc2 32 && (said && (eqb (pc3 / 32 % 2) rate && (eqb (pc3 % 32) 3 && eqb (p.pc4 % 64) 0))))))) ≡ as_ok y c p
as_judged y c p count rate mode pc3 own said ec eo er em es b3 = rw (eo, ec, er, es, em, b3) refl

pub mode_judged : (c mode own : ℕ) (mark : Bool) → own ≡ mode_of c → mark ≡ is_mark mode → (eqb mode own || mark) ≡ mode_ok c mode
mode_judged c mode own mark eo em = rw (eo, em) refl

-- ---- an SSYB with no pack

module _ (first : Bool) (k : ℕ) where
  pub none_first : first ≡ true → (k ≡ 3 → ⊥) → (k ≡ 4 → ⊥) → (k ≡ 5 → ⊥) → (k ≡ 9 → ⊥) → (k ≡ 10 → ⊥) → (k ≡ 11 → ⊥) → NoPack ≡ kind_of first k
  none_first e d3 d4 d5 d9 d10 d11 = rw e (sym (kind_none_first k d3 d4 d5 d9 d10 d11))

  pub none_second : first ≡ false → (k ≡ 3 → ⊥) → (k ≡ 9 → ⊥) → NoPack ≡ kind_of first k
  none_second e d3 d9 = rw e (sym (kind_none_second k d3 d9))

-- ---- a source pack, its control pack or none

module _ (at : ℕ) (source control : Pack) (k : ℕ) where
  pub source_way : k ≡ at → source ≡ pair_at at source control k
  source_way e = rw e (sym (pair_source at source control))

  pub control_way : k ≡ at + 1 → control ≡ pair_at at source control k
  control_way e = rw e (sym (pair_control at source control))

  pub none_way : (p : Pack) → (k ≡ at → ⊥) → (k ≡ at + 1 → ⊥) → p ≡ no_pack → p ≡ pair_at at source control k
  none_way p d e ep = ep ∙ sym (pair_none at source control k d e)

-- by what the callee says is the source pack's number
pub pair_from : (at at' : ℕ) (source control p : Pack) (k : ℕ) → at ≡ at' → p ≡ pair_at at source control k → p ≡ pair_at at' source control k
pair_from at at' source control p k e ep = ep ∙ rw e refl

-- ---- VS, AS

pub vs_made : (y : System) (rate stype : ℕ) → rate ≡ rate_of y → stype ≡ stype_of y
    → record { pc0 = 0x60; pc1 = 0xFF; pc2 = 0xFF; pc3 = 0xC0 + rate * 0x20 + stype; pc4 = 0xFF } ≡ vs_pack y
vs_made y rate stype er es = rw (er, es) refl

pub as_made : (y : System) (count c size mode rate : ℕ) → size ≡ size_of count → mode ≡ mode_of c → rate ≡ rate_of y
    → record { pc0 = 0x50; pc1 = 0x40 + size; pc2 = 0x10 + mode; pc3 = 0xC3 + rate * 0x20; pc4 = 0xC0 } ≡ as_pack y count c
unfolding as_pack
as_made y count c size mode rate es em er = rw (es, em, er) refl

-- ---- what every sequence repeats

pub repeated_made : (y : System) (time group : List ℕ) (t g vs vsc asc : Pack) → t ≡ time_pack time → g ≡ group_pack group → vs ≡ vs_pack y → vsc ≡ vsc_pack → asc ≡ asc_pack
    → record { subcode = record { time = t; group = g }; vs = vs; vsc = vsc; asc = asc } ≡ repeated_of y time group
repeated_made y time group t g vs vsc asc et eg ev ec ea = rw (et, eg, ev, ec, ea) refl
