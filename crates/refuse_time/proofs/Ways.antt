-- The ways out of the time code read's refusals, a lemma a row. Assumes nothing.
use mathlib.Core.Path.{◌≡◌, refl, sym, ◌∙◌}
use mathlib.Core.Bool.{Bool, true, false, not, ◌&&◌}
use mathlib.Core.List.{List}
use Prim.Native.Nat.{ℕ, ◌*◌}
use lib.Dec.{eqb}
use lib.ListN.{length}
use borrow.Author.Tests.{eq-eqb, ne_eqb, not-true, not-false}
use Rattle.base.specs.Calls.{first_of}
use Rattle.paper.specs.declared.System.{System}
use Rattle.paper.specs.declared.Cause.{Cause}
use Rattle.paper.specs.Causes.{cause_number}
use Rattle.layout.specs.Asked.{FrameKnown, frame_rows}
use Rattle.layout.proofs.Saying.{never_zero}
use Rattle.layout.proofs.Refusing.{frame_stops}
use Rattle.paper.specs.declared.Pack.{Pack}
use Rattle.rules_format.specs.Systems.{sequences_of, system_of}
use Rattle.rules_packs.specs.TimeCode.{time_ok, group_ok}
use Rattle.rules_reads.specs.Check.{every_sequence, unflagged, check_rows}
use Rattle.rules_reads.specs.Time.{time_first, group_first, subcode_agrees, time_rows, time_number}
use Rattle.rules_reads.proofs.Time.{time_23, time_26, time_27, time_0, time_1, time_2, time_checked, time_rows_lem}
use Rattle.refuse_check.specs.Asked.{whole_number}
use Rattle.refuse_check.proofs.Ways.{whole_number_lem}

-- ---- clock_number

module _ (y : System) (frame : List ℕ) (a : Bool) (ea : a ≡ every_sequence y frame (unflagged 3)) where
  pub clock_23 : not a ≡ true → 23 ≡ first_of (time_rows y frame)
  clock_23 e = time_23 y frame (sym ea ∙ not-true _ e)

  module _ (oa : not a ≡ false) (time group : Pack) (et : time ≡ time_first y frame) (eg : group ≡ group_first y frame)
      (t g : Bool) (ett : t ≡ time_ok y time) (egg : g ≡ group_ok group) where
    right : (time_ok y (time_first y frame) && group_ok (group_first y frame)) ≡ (t && g)
    right = rw (ett, egg, et, eg) refl

    pub clock_26 : not (t && g) ≡ true → 26 ≡ first_of (time_rows y frame)
    clock_26 e = time_26 y frame (sym ea ∙ not-false _ oa) (right ∙ not-true _ e)

    module _ (or : not (t && g) ≡ false) (d : Bool) (ed : d ≡ every_sequence y frame (subcode_agrees y time group)) where
      same_packs : every_sequence y frame (subcode_agrees y (time_first y frame) (group_first y frame)) ≡ d
      same_packs = rw (← et, ← eg) (sym ed)

      pub clock_27 : not d ≡ true → 27 ≡ first_of (time_rows y frame)
      clock_27 e = time_27 y frame (sym ea ∙ not-false _ oa) (right ∙ not-false _ or) (same_packs ∙ not-true _ e)

      pub clock_0 : not d ≡ false → 0 ≡ first_of (time_rows y frame)
      clock_0 e = time_0 y frame (sym ea ∙ not-false _ oa) (right ∙ not-false _ or) (same_packs ∙ not-false _ e)

-- ---- refuse

module _ (k : ℕ) (frame : List ℕ) where
  pub time_stops : (cause : Cause) → cause_number cause ≡ first_of (frame_rows k (length frame)) → cause_number cause ≡ time_number k frame
  unfolding time_number
  time_stops = frame_stops k (length frame) _

  module _ (y : System) (is : FrameKnown k (length frame) y) where
    whole : eqb (length frame) (48000 * sequences_of y) ≡ true
    whole = eq-eqb _ _ is.whole

    pub time_check_stops : (cause : Cause) → cause_number cause ≡ whole_number y frame → cause_number cause ≡ time_number k frame
    time_check_stops cause e =
        let checks = e ∙ whole_number_lem y frame whole in
        checks ∙ time_checked k frame y is.known whole (λ z. never_zero cause (checks ∙ z))

    pub time_through : 0 ≡ whole_number y frame → (i : ℕ) → i ≡ first_of (time_rows y frame) → i ≡ time_number k frame
    time_through z i ei = ei ∙ time_rows_lem k frame y is.known whole (sym (z ∙ whole_number_lem y frame whole))
