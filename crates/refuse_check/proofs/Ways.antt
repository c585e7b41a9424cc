-- The ways out of the frame check, a lemma a row. Assumes nothing.
use Rattle.std.specs.Prelude.{Option, Some, None}
use mathlib.Core.Path.{◌≡◌, sym, ◌∙◌}
use mathlib.Core.Bool.{Bool, true, false, not}
use mathlib.Core.List.{List}
use Prim.Native.Nat.{ℕ, ◌*◌}
use native.Mathlib.Omega.{arith}
use lib.Dec.{eqb}
use lib.ListN.{length}
use borrow.Author.Tests.{eq-eqb, ne_eqb, not-true, not-false}
use Rattle.base.specs.Calls.{first_of}
use Rattle.base.proofs.Cases.{by_bool}
use Rattle.base.proofs.Picks.{pick_true, pick_false}
use Rattle.paper.specs.declared.System.{System}
use Rattle.paper.specs.declared.Cause.{Cause}
use Rattle.paper.specs.Causes.{cause_number}
use Rattle.rules_format.specs.Systems.{sequences_of, system_of}
use Rattle.rules_reads.specs.Check.{every_sequence, dsf_agrees, vs_agrees, fault_in, check_rows, check_number, Checked}
use Rattle.rules_reads.proofs.Check.{rows_fault, rows_21, rows_22, rows_0, check_rows_lem}
use Rattle.layout.specs.Asked.{FrameKnown, frame_rows}
use Rattle.layout.proofs.Refusing.{frame_stops}
use Rattle.first_fault.specs.Asked.{first_or_length}
use Rattle.refuse_check.specs.Asked.{whole_number}

-- ---- checked: f is the first fault, d and v what the two judgements say

module _ (y : System) (frame : List ℕ) where
  -- of a frame that has its length
  pub whole_number_lem : eqb (length frame) (48000 * sequences_of y) ≡ true → whole_number y frame ≡ first_of (check_rows y frame)
  unfolding whole_number
  whole_number_lem e = pick_true _ _ e

  short_number : eqb (length frame) (48000 * sequences_of y) ≡ false → 2 ≡ whole_number y frame
  unfolding whole_number
  short_number e = sym (pick_false _ _ e)

  first_whole : eqb (length frame) (48000 * sequences_of y) ≡ true → first_or_length y frame ≡ fault_in y frame
  unfolding first_or_length
  first_whole e = pick_true _ _ e

  first_short : eqb (length frame) (48000 * sequences_of y) ≡ false → first_or_length y frame ≡ 2
  unfolding first_or_length
  first_short e = pick_false _ _ e

  module _ (f : ℕ) (ef : f ≡ first_or_length y frame) where
    pub checked_fault : (f ≡ 0 → ⊥) → f ≡ whole_number y frame
    checked_fault d =
        by_bool (eqb (length frame) (48000 * sequences_of y))
        (λ e. let i = ef ∙ first_whole e in i ∙ sym (rows_fault y frame (λ z. d (i ∙ z))) ∙ sym (whole_number_lem e))
        (λ e. ef ∙ first_short e ∙ short_number e)

    module _ (z : f ≡ 0) where
      -- no first fault says that the frame has its length
      whole : eqb (length frame) (48000 * sequences_of y) ≡ true
      whole = by_bool (eqb (length frame) (48000 * sequences_of y)) (λ e. e) (λ e. absurd (omega (arith, z, ef, first_short e)))

      clean : fault_in y frame ≡ 0
      clean = sym (first_whole whole) ∙ sym ef ∙ z

      rows : first_of (check_rows y frame) ≡ whole_number y frame
      rows = sym (whole_number_lem whole)

      module _ (d : Bool) (ed : d ≡ every_sequence y frame (dsf_agrees y)) where
        pub checked_21 : not d ≡ true → 21 ≡ whole_number y frame
        checked_21 e = sym (rows_21 y frame clean (sym ed ∙ not-true _ e)) ∙ rows

        module _ (ok : not d ≡ false) (v : Bool) (ev : v ≡ every_sequence y frame (vs_agrees y)) where
          pub checked_22 : not v ≡ true → 22 ≡ whole_number y frame
          checked_22 e = sym (rows_22 y frame clean (sym ed ∙ not-false _ ok) (sym ev ∙ not-true _ e)) ∙ rows

          pub checked_0 : not v ≡ false → 0 ≡ whole_number y frame
          checked_0 e = sym (rows_0 y frame clean (sym ed ∙ not-false _ ok) (sym ev ∙ not-false _ e)) ∙ rows

-- ---- refuse

module _ (k : ℕ) (frame : List ℕ) where
  pub check_stops : (cause : Cause) → cause_number cause ≡ first_of (frame_rows k (length frame)) → Checked k frame (cause_number cause)
  unfolding check_number
  check_stops cause e = record { answer = frame_stops k (length frame) _ cause e }

  pub check_through : (y : System) → FrameKnown k (length frame) y → (r : ℕ) → r ≡ whole_number y frame → Checked k frame r
  check_through y known r er =
      let w = eq-eqb _ _ known.whole in
      record { answer = er ∙ whole_number_lem y frame w ∙ check_rows_lem k frame y known.known w }
