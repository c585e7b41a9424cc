-- Laws of the picture slots: every macroblock lies in exactly one slot. Assumes nothing.
use Rattle.std.specs.Prelude.{Option, Some, None}
use mathlib.Core.Path.{◌≡◌, refl, sym, ap, ◌∙◌}
use mathlib.Core.Bool.{Bool, true, false, not, ◌&&◌}
use Prim.Native.Nat.{ℕ, ◌<◌, ◌≤◌}
use native.Mathlib.Omega.{arith}
use lib.Dec.{T, eqb, ltb}
use borrow.Author.Tests.{ltb-true, ltb-false, eqb-true, lt-ltb, le-ltb, eq-eqb, ne_eqb, not-true, not-false}
use Rattle.base.specs.Pick.{pick}
use Rattle.base.specs.Calls.{ExactlyOne}
use Rattle.base.proofs.Cases.{by_lt}
use Rattle.base.proofs.Picks.{pick_true, pick_false, pick_either, both_held}
use Rattle.paper.specs.declared.System.{System}
use Rattle.paper.specs.declared.System.TheVariants.{I60, I50, P60, P50}
use Rattle.paper.specs.declared.Slot.{Slot}
use Rattle.rules_format.specs.Systems.{sequences_of, macroblocks_of}
use Rattle.rules_picture.specs.Picture.{slot, ten_carries, eleven_carries, within, carries_of, carried_in, ten_found, eleven_found, carrier_of, carried_by}
use Rattle.rules_picture.specs.Rows.{meets, rows_agree, table22, table23, table24, printed_rows}
use Rattle.rules_picture.proofs.Ruled.{carried_picked, eleven_back, ten_back, ten_forth, within_there, eleven_forth}

-- ---- carried_in: the printed rows

-- "a row they print decides"
pub rows_agree_lem : T (rows_agree printed_rows)
unfolding printed_rows table22 table23 table24 rows_agree meets within ten_carries eleven_carries pick
rows_agree_lem = tt

-- ---- what they say, of every system

-- the slot of a macroblock carries it
pub carrier_carries : (y : System) (b : ℕ) → b < macroblocks_of y → carried_by (carried_in y) (carrier_of y b) ≡ Some b
carrier_carries I60 = ten_forth
carrier_carries I50 = eleven_forth
carrier_carries P60 = ten_forth
carrier_carries P50 = ten_forth

-- a slot of the system: DIF channel, sequence and video block
pub record Inside (y : System) (s : Slot) : Type 0 where
  pub channel : s.channel < 4
  pub sequence : s.sequence < sequences_of y
  pub video : s.video.0 < 135

within_carried : (f : ℕ → ℕ → ℕ → Option ℕ) (s : Slot) (b : ℕ) → within f s ≡ Some b
    → (s.channel < 4) × (s.video.0 < 135) × (f s.channel s.sequence s.video.0 ≡ Some b)
unfolding within
within_carried f s b e =
    let p = carried_picked (ltb s.channel 4) _ b e in
    let r = carried_picked (ltb s.video.0 135) _ b p.1 in
    (ltb-true _ _ p.0, ltb-true _ _ r.0, r.1)

ten_sequence : (h q v b : ℕ) → ten_carries h q v ≡ Some b → q < 10
unfolding ten_carries
ten_sequence h q v b e = ltb-true q 10 (carried_picked (ltb q 10) _ b e).0

eleven_either : (t : Bool) (q : ℕ) (x z : Option ℕ) (b : ℕ) → t ≡ ltb q 11 → pick t x (pick (eqb q 11) z None) ≡ Some b → q < 12
unfolding pick
eleven_either true q x z b et e = omega (arith, ltb-true q 11 (sym et))
eleven_either false q x z b et e = omega (arith, eqb-true q 11 (carried_picked (eqb q 11) z b e).0)

eleven_sequence : (h q v b : ℕ) → eleven_carries h q v ≡ Some b → q < 12
unfolding eleven_carries
eleven_sequence h q v b e = eleven_either (ltb q 11) q _ _ b refl e

-- what carries a macroblock is a slot of the system
pub carried_inside : (y : System) (s : Slot) (b : ℕ) → carried_in y s ≡ Some b → Inside y s
carried_inside y s b e = let w = within_carried (carries_of y) s b e in record { channel = w.0; sequence = by_system y w.2; video = w.1 }
  where
    by_system : (y : System) → carries_of y s.channel s.sequence s.video.0 ≡ Some b → s.sequence < sequences_of y
    by_system I60 r = ten_sequence _ _ _ b r
    by_system I50 r = eleven_sequence _ _ _ b r
    by_system P60 r = ten_sequence _ _ _ b r
    by_system P50 r = let l : s.sequence < 10 = ten_sequence _ _ _ b r in omega arith

ten_lies : (s : Slot) (b : ℕ) → within ten_carries s ≡ Some b → (b < 5400) × (ten_found b ≡ Some s)
ten_lies s b e = let w = within_carried ten_carries s b e in ten_back _ _ _ b w.0 (ten_sequence _ _ _ b w.2) w.1 w.2

eleven_lies : (s : Slot) (b : ℕ) → within eleven_carries s ≡ Some b → (b < 6075) × (eleven_found b ≡ Some s)
eleven_lies s b e = let w = within_carried eleven_carries s b e in eleven_back _ _ _ b w.0 (eleven_sequence _ _ _ b w.2) w.1 w.2

-- what a slot carries is one of the system's macroblocks, and lies in that slot
pub carried_lies : (y : System) (s : Slot) (b : ℕ) → carried_in y s ≡ Some b → (b < macroblocks_of y) × (carrier_of y b ≡ Some s)
carried_lies I60 = ten_lies
carried_lies I50 = eleven_lies
carried_lies P60 = ten_lies
carried_lies P50 = ten_lies

lies : (y : System) (b : ℕ) (r : Option Slot) → carrier_of y b ≡ r → carried_by (carried_in y) r ≡ Some b → ExactlyOne Slot (λ s. carried_in y s ≡ Some b)
lies y b (Some s) e m =
    record {
      outcome = s;
      meets = m;
      only = λ other c. let f : carrier_of y b ≡ Some other = (carried_lies y other b c).1 in let g : Some other ≡ Some s = sym f ∙ e in cc;
    }
lies y b None e m = let q : ◌≡◌ {A = ℕ} 0 1 = cc in absurd (omega arith)

-- every macroblock of the system lies in exactly one slot
pub carrier_one : (y : System) (b : ℕ) → b < macroblocks_of y → ExactlyOne Slot (λ s. carried_in y s ≡ Some b)
carrier_one y b h = lies y b (carrier_of y b) refl (carrier_carries y b h)

ten_past : (b : ℕ) → 5400 ≤ b → ten_found b ≡ None
unfolding ten_found pick
ten_past b h = rw (le-ltb b 5400 h) refl

eleven_past : (b : ℕ) → 6075 ≤ b → eleven_found b ≡ None
unfolding eleven_found pick
eleven_past b h = rw (le-ltb b 5940 (omega arith), le-ltb b 6075 h) refl

-- a number past the system's macroblocks lies in no slot
pub carrier_past : (y : System) (b : ℕ) → macroblocks_of y ≤ b → carrier_of y b ≡ None
carrier_past I60 = ten_past
carrier_past I50 = eleven_past
carrier_past P60 = ten_past
carrier_past P50 = ten_past

-- ---- the remaining slots

-- "Remaining slots (system 1: sequence 11 of channels 1-3; system 3: sequences 10, 11) carry none"
abbrev pub remaining : System → Slot → Bool
remaining I60 s = false
remaining I50 s = eqb s.sequence 11 && ltb 0 s.channel
remaining P60 s = false
remaining P50 s = not (ltb s.sequence 10)

right_false : (a b : Bool) → a ≡ true → (a && b) ≡ false → b ≡ false
right_false true b t e = e
right_false false b t e = let q : ◌≡◌ {A = ℕ} 0 1 = cc in absurd (omega arith)

nothing_within : (f : ℕ → ℕ → ℕ → Option ℕ) (s : Slot) → f s.channel s.sequence s.video.0 ≡ None → within f s ≡ None
unfolding within
nothing_within f s e = rw e (pick_either (λ (r : Option ℕ). r ≡ None) (ltb s.channel 4) (pick_either (λ (r : Option ℕ). r ≡ None) (ltb s.video.0 135) refl refl) refl)

-- sequence 11 of DIF channels 1 to 3 of system 1
pub edge_others_none : (h v : ℕ) → 0 < h → carried_in I50 (slot h 11 v) ≡ None
unfolding eleven_carries pick
edge_others_none h v l = nothing_within eleven_carries (slot h 11 v) (rw (ne_eqb h 0 (λ e. omega arith)) refl)

-- sequences 10 and 11 of system 3
pub late_none : (h q v : ℕ) → 10 ≤ q → carried_in P50 (slot h q v) ≡ None
unfolding ten_carries pick
late_none h q v l = nothing_within ten_carries (slot h q v) (rw (le-ltb q 10 l) refl)

pub remaining_none : (y : System) (s : Slot) → remaining y s ≡ true → carried_in y s ≡ None
remaining_none I60 s e = let q : ◌≡◌ {A = ℕ} 0 1 = cc in absurd (omega arith)
remaining_none I50 s e =
    let p = both_held (eqb s.sequence 11) (ltb 0 s.channel) e in
    let q : s.sequence ≡ 11 = eqb-true _ _ p.0 in
    ap (λ (n : ℕ). carried_in I50 (slot s.channel n s.video.0)) q ∙ edge_others_none s.channel s.video.0 (ltb-true _ _ p.1)
remaining_none P60 s e = let q : ◌≡◌ {A = ℕ} 0 1 = cc in absurd (omega arith)
remaining_none P50 s e = late_none s.channel s.sequence s.video.0 (ltb-false _ _ (not-true _ e))

-- a slot that carries a macroblock of the system
pub record Carries (y : System) (s : Slot) : Type 0 where
  pub number : ℕ
  pub below : number < macroblocks_of y
  pub carried : carried_in y s ≡ Some number

carries : (y : System) (s : Slot) (b : ℕ) → carried_in y s ≡ Some b → Carries y s
carries y s b e = record { number = b; below = (carried_lies y s b e).0; carried = e }

ten_there : (y : System) (s : Slot) → carries_of y ≡ ten_carries → s.channel < 4 → s.sequence < 10 → s.video.0 < 135 → Carries y s
unfolding ten_carries
ten_there y s e h q v = carries y s _ (ap (λ (f : ℕ → ℕ → ℕ → Option ℕ). within f s) e ∙ within_there ten_carries s h v ∙ pick_true _ _ (lt-ltb _ _ q))

-- every other slot of the system carries one
pub others_carry : (y : System) (s : Slot) → Inside y s → remaining y s ≡ false → Carries y s
unfolding eleven_carries
others_carry I60 s i r = ten_there I60 s refl i.channel i.sequence i.video
others_carry I50 s i r =
    by_lt s.sequence 11
    (λ l. carries I50 s _ (within_there eleven_carries s i.channel i.video ∙ pick_true _ _ (lt-ltb _ _ l)))
    (λ l.
    let q : s.sequence ≡ 11 = let b : s.sequence < 12 = i.sequence in omega arith in
    let c : s.channel ≡ 0 = channel_zero q in
    carries I50 s _ (within_there eleven_carries s i.channel i.video ∙ pick_false _ _ (le-ltb _ _ l) ∙ pick_true _ _ (eq-eqb _ _ q) ∙ pick_true _ _ (eq-eqb _ _ c)))
  where
    channel_zero : s.sequence ≡ 11 → s.channel ≡ 0
    channel_zero q = let l : s.channel ≤ 0 = ltb-false 0 s.channel (right_false _ _ (eq-eqb _ _ q) r) in omega arith
others_carry P60 s i r = ten_there P60 s refl i.channel i.sequence i.video
others_carry P50 s i r = ten_there P50 s refl i.channel (ltb-true _ _ (not-false _ r)) i.video
