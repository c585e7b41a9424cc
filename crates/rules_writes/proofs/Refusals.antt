-- The writer's refusal table, in document 01's numbers and bytes, gives exactly the number that its contract has. Assumes nothing.
use Rattle.std.specs.Prelude.{Some}
use mathlib.Core.Path.{◌≡◌, sym, ap, ◌∙◌}
use mathlib.Core.Bool.{true, false, not}
use mathlib.Core.List.{List, [], ◌∷◌}
use mathlib.Core.Logic.{inl, inr, ⊎_elim}
use Prim.Native.Nat.{ℕ, ◌*◌}
use lib.Dec.{eqb}
use lib.ListN.{length}
use borrow.Author.Tests.{eqb-true, eq-eqb, not-true, not-false}
use Rattle.base.specs.Calls.{Refusal, first_of, ◌when◌}
use Rattle.base.proofs.Cases.{by_eq, clash}
use Rattle.base.proofs.Picks.{both_held, both_hold}
use Rattle.paper.specs.declared.System.{System}
use Rattle.rules_format.specs.Systems.{macroblocks_of, is_count, system_of, passes, frame_bytes}
use Rattle.rules_format.specs.Samples.{all_in_range}
use Rattle.promises.specs.Contents.{Contents}
use Rattle.rules_writes.specs.Write.{lengths_ok, count_ok, clock_taken, write_number}
use Rattle.promises.specs.Refusals.{Table, ◌if◌, ◌else◌, none, WrongLengths, write_table}
use Rattle.paper.specs.Bytes.{WrongTime}
use Rattle.rules_format.proofs.Paper.{columns}
use Rattle.promises.proofs.Tables.{Exactly, exactly_none, row_exactly, row_system, row_length, row_outside}
use Rattle.rules_packs.proofs.Judged.{own_means, own_when, taken_wrong, taken_right}
use Rattle.rules_packs.specs.TimeCode.{time_taken, time_pack}

-- ---- 32

row_32 : (k : ℕ) (y : System) → system_of k ≡ Some y → (time : List ℕ) (table : Table) (rows : List Refusal)
    → (time_taken y (time_pack time) ≡ true → Exactly table (first_of rows))
    → Exactly (32 if WrongTime k time else table) (first_of (32 when not (time_taken y (time_pack time)) ∷ rows))
row_32 k y known time table rows rest =
    row_exactly 32 (not (time_taken y (time_pack time))) table rows
    (λ e. taken_wrong k y known time (not-true _ e))
    (λ e. taken_right k y known time (not-false _ e))
    (λ e. rest (not-false _ e))

-- ---- write_frame

module _ (k : ℕ) (y : System) (known : system_of k ≡ Some y) (l : Contents) where
  lengths_means : lengths_ok l y ≡ false → WrongLengths k l
  lengths_means e =
      let m = (columns k y known).macroblocks_is in
      by_eq (length l.sound) (8 * l.count)
      (λ sound.
      by_eq (length l.macroblocks) (77 * macroblocks_of y)
      (λ picture.
      by_eq (length l.time_code) 4
      (λ time.
      by_eq (length l.binary_group) 4
      (λ group. absurd (clash (both_hold (both_hold (both_hold (eq-eqb _ _ sound) (eq-eqb _ _ picture)) (eq-eqb _ _ time)) (eq-eqb _ _ group)) e))
      (λ d. inr (inr (inr d))))
      (λ d. inr (inr (inl d))))
      (λ d. inr (inl (λ z. d (z ∙ ap (λ (n : ℕ). 77 * n) m)))))
      (λ d. inl d)

  lengths_not : lengths_ok l y ≡ true → WrongLengths k l → ⊥
  lengths_not e =
      let m = (columns k y known).macroblocks_is in
      let last = both_held _ _ e in
      let third = both_held _ _ last.0 in
      let two = both_held _ _ third.0 in
      ⊎_elim (λ d. d (eqb-true _ _ two.0))
      (⊎_elim (λ d. d (eqb-true _ _ two.1 ∙ sym (ap (λ (n : ℕ). 77 * n) m)))
      (⊎_elim (λ d. d (eqb-true _ _ third.1)) (λ d. d (eqb-true _ _ last.1))))

pub write_exactly : (k : ℕ) (l : Contents) (size : ℕ) → Exactly (write_table k l size) (write_number k l size)
unfolding write_number
write_exactly k l size =
    row_system k _
    (λ s.
    2 when not (eqb size (frame_bytes s))
    ∷ 3 when not (passes (count_ok l) s)
    ∷ 4 when not (passes (lengths_ok l) s)
    ∷ 31 when not (all_in_range l.sound)
    ∷ 32 when not (passes (clock_taken l) s)
    ∷ [])
    (λ y known.
    row_length k y known size _ _ (λ whole.
    row_exactly 3 (not (is_count y l.count)) _ _
    (λ e own. clash (own_when k y known l.count own) (not-true _ e))
    (λ e d. d (own_means k y known l.count (not-false _ e))) (λ counted.
    row_exactly 4 (not (lengths_ok l y)) _ _ (λ e. lengths_means k y known l (not-true _ e)) (λ e. lengths_not k y known l (not-false _ e)) (λ lengths.
    row_outside l.sound _ _ (λ sampled. row_32 k y known l.time_code none [] (λ clocked. exactly_none))))))
