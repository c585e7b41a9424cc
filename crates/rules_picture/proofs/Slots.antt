-- The workshop of this crate's headline: the picture slots in document 01's own numbers. Assumes nothing.
use Rattle.std.specs.Prelude.{Some, None}
use mathlib.Core.Path.{◌≡◌, refl, sym, ap, ◌∙◌}
use mathlib.Core.List.{[], ◌∷◌}
use Prim.Native.Nat.{ℕ, ◌+◌, ◌*◌, ◌/◌, ◌%◌, ◌<◌}
use native.Mathlib.Omega.{arith}
use borrow.Author.Tests.{lt-ltb}
use lib.Dec.{eqb, ltb}
use lib.ListN.{get_or-eq_default}
use Rattle.base.specs.Pick.{pick}
use Rattle.base.proofs.Cases.{by_lt}
use Rattle.paper.specs.declared.System.{System}
use Rattle.paper.specs.declared.System.TheVariants.{I60, I50, P60, P50}
use Rattle.rules_format.specs.Systems.{sequences_of, system_of}
use Rattle.rules_picture.specs.Picture.{slot, ten_carries, eleven_carries, carried_in, within}
use Rattle.paper.specs.Paper.{ten_rows, eleven_rows, carried, macroblocks}
use Rattle.rules_picture.specs.Slots.{SlotOf, SlotsInNumbers}
use Rattle.rules_picture.proofs.Ruled.{within_there}
use Rattle.rules_picture.proofs.Picture.{carrier_carries, carrier_one, carried_inside, carried_lies, carrier_past}
use Rattle.rules_format.proofs.Paper.{columns, number_known, known_system}

-- ---- carried_in: what the slot V(5g+m) carries

module _ (h q g m : ℕ) (hg : g < 27) (hm : m < 5) where
  group_is : (5 * g + m) / 5 ≡ g
  group_is = omega arith

  unit_is : (5 * g + m) % 5 ≡ m
  unit_is = omega arith

  ten_is : ten_carries h q (5 * g + m) ≡ pick (ltb q 10) (Some (ten_rows h q g m)) None
  unfolding ten_carries
  ten_is = rw (group_is, unit_is) refl

  eleven_is : q < 12
      → eleven_carries h q (5 * g + m) ≡ pick (ltb q 11) (Some (eleven_rows h q g m)) (pick (eqb h 0) (Some (5940 + 27 * m + g)) None)
  unfolding eleven_carries pick
  eleven_is hq =
      by_lt q 11
      (λ l. rw (lt-ltb q 11 l, group_is, unit_is) refl)
      (λ l. let last : q ≡ 11 = omega arith in rw (last, group_is, unit_is) refl)

  pub carried_is : (k : ℕ) (y : System) → system_of k ≡ Some y → h < 4 → q < sequences_of y → carried_in y (slot h q (5 * g + m)) ≡ carried k h q g m
  unfolding carried pick
  carried_is k I60 known hh hq = within_there ten_carries (slot h q (5 * g + m)) hh (omega arith) ∙ ten_is ∙ rw (number_known k I60 known) refl
  carried_is k I50 known hh hq = within_there eleven_carries (slot h q (5 * g + m)) hh (omega arith) ∙ eleven_is hq ∙ rw (number_known k I50 known) refl
  carried_is k P60 known hh hq = within_there ten_carries (slot h q (5 * g + m)) hh (omega arith) ∙ ten_is ∙ rw (number_known k P60 known) refl
  carried_is k P50 known hh hq = within_there ten_carries (slot h q (5 * g + m)) hh (omega arith) ∙ ten_is ∙ rw (number_known k P50 known) refl

-- every macroblock of the system has its slot
pub slot_of : (k b : ℕ) → b < macroblocks k → SlotOf k b
slot_of k b hb =
    by_lt k 4
    (λ l.
    known_system k l (λ y known.
    let col = columns k y known in
    let one = carrier_one y b (omega (arith, hb, col.macroblocks_is)) in
    let s = one.outcome in
    let i = carried_inside y s b one.meets in
    let v = s.video.0 in
    let e : 5 * (v / 5) + v % 5 ≡ v = omega arith in
    record {
      h = s.channel;
      q = s.sequence;
      g = v / 5;
      m = v % 5;
      channel = i.channel;
      sequence = omega (arith, i.sequence, col.sequences_is);
      group = omega (arith, i.video);
      unit = omega arith;
      carries =
          sym (carried_is s.channel s.sequence (v / 5) (v % 5) (omega (arith, i.video)) (omega arith) k y known i.channel i.sequence)
          ∙ ap (λ (x : ℕ). carried_in y (slot s.channel s.sequence x)) e ∙ one.meets;
    }))
    (λ past.
    let none : macroblocks k ≡ 0 = get_or-eq_default (5400 ∷ 6075 ∷ 5400 ∷ 5400 ∷ []) 0 past in
    absurd (omega (arith, hb, none)))

-- ---- all

pub slots_are : SlotsInNumbers
unfolding within ten_carries eleven_carries pick
slots_are = record {
  slots = λ k y known h q g m hh hq hg hm. carried_is h q g m hg hm k y known hh hq;
  slot_is = λ h q v. refl;
  carries_back = carrier_carries;
  all_carried = slot_of;
  lies = carried_lies;
  lies_past = carrier_past;
  known = (refl, refl);
}
