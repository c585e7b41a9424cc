-- The ways out of the public calls. Assumes nothing.
use Rattle.std.specs.Prelude.{Some, None}
use mathlib.Core.Path.{◌≡◌, refl, sym, ap, ◌∙◌}
use mathlib.Core.List.{List}
use mathlib.Core.Bool.{Bool, true, false, not}
use Prim.Native.Nat.{ℕ, zero, suc}
use native.Mathlib.Omega.{arith}
use lib.Dec.{eqb}
use lib.ListN.{length}
use borrow.Author.Tests.{eqb-true, eqb-false, not-true, not-false}
use Rattle.paper.specs.declared.System.{System}
use Rattle.paper.specs.declared.Survey.{Survey}
use Rattle.paper.specs.declared.Fault.{Fault}
use Rattle.paper.specs.declared.Cause.{Cause}
use Rattle.paper.specs.Causes.{cause_number}
use Rattle.base.specs.Calls.{first_of}
use Rattle.layout.specs.Asked.{FrameKnown, frame_rows}
use Rattle.layout.proofs.Saying.{never_zero}
use Rattle.rules_format.specs.Systems.{system_of}
use Rattle.rules_surveys.specs.FaultLists.{frame_faults, faults_in}
use Rattle.rules_surveys.specs.Noting.{Noted}
use Rattle.rules_surveys.specs.Survey.{outside_sequences, refusal, survey_number, sequence_number, Surveyed, FrameSurveyed, SequenceSurveyed}
use Rattle.rules_surveys.proofs.Calls.{inside_means, survey_done, survey_stopped, survey_0, sequence_0, sequence_1, sequence_3}
use Rattle.rules_surveys.proofs.Calls.{sequence_4}
use Rattle.fault_list.specs.declared.list.FaultList.{FaultList}
use Rattle.fault_list.specs.Asked.{tallied, next_faults}
use Rattle.fault_list.specs.Listed.{NotedIn}
use Rattle.fault_list.proofs.Listing.{in_noted, in_size, refused_by}
use Rattle.fault_list.proofs.Next.{next_inside}
use Rattle.surveys.specs.Asked.{SequenceKnown}

-- ---- survey

module _ (k : ℕ) (frame list : List ℕ) where
  pub frame_stopped : (cause : Cause) → cause_number cause ≡ first_of (frame_rows k (length frame)) → (n : ℕ) → n ≡ cause_number cause → (r : Survey) → r ≡ refusal n → FrameSurveyed k frame list r list
  unfolding survey_number
  frame_stopped cause e n en r er = refused_by _ _ list n r (sym (en ∙ e)) (λ z. never_zero cause (sym en ∙ z)) er

  pub frame_surveyed : (list' : List ℕ) (y : System) (old new : FaultList) (r : Survey) → FrameKnown k (length frame) y
      → NotedIn old (frame_faults y frame) new → old.numbers.now ≡ list → old.total ≡ 0
      → (length list' ≡ length list) × (old.numbers.ghost_name ≡ new.numbers.ghost_name → list' ≡ new.numbers.now)
      → r ≡ tallied new.total (length new.numbers.now) → FrameSurveyed k frame list r list'
  frame_surveyed list' y old new r is noted eo et back er' =
      let t = new.total in
      let nt : Noted list 0 (frame_faults y frame) list' t = rw et at (in_noted old new list list' noted eo back) in
      let er : r ≡ tallied t (length list) = er' ∙ ap (tallied t) (in_size old new list list' noted eo back) in
      let all : frame_faults y frame ≡ faults_in (system_of k) frame = rw is.known refl in
      rw er (survey_done _ _ list list' t _ (survey_0 k (length frame) y is.known is.whole) (rw all at nt) refl)

-- ---- survey_sequence

module _ (k h q : ℕ) where
  pub sequence_none : (bytes : ℕ) → system_of k ≡ None → 1 ≡ sequence_number k h q bytes
  sequence_none bytes e = sym (sequence_1 k h q bytes e)

  module _ (bytes : ℕ) (y : System) (e : system_of k ≡ Some y) (o : Bool) (eo : o ≡ outside_sequences (Some y) h q) where
    pub sequence_outside : o ≡ true → 3 ≡ sequence_number k h q bytes
    sequence_outside t = sym (sequence_3 k h q bytes y e (sym eo ∙ t))

    module _ (f : o ≡ false) where
      pub sequence_wrong_length : (bytes ≡ 12000 → ⊥) → 4 ≡ sequence_number k h q bytes
      sequence_wrong_length d = sym (sequence_4 k h q bytes y e (sym eo ∙ f) d)

      pub sequence_said : bytes ≡ 12000 → 0 ≡ sequence_number k h q bytes
      sequence_said w = sym (sequence_0 k h q bytes y e (sym eo ∙ f) w)

      pub sequence_known : bytes ≡ 12000 → SequenceKnown k h q bytes y
      sequence_known w = record { known = e; inside = sym eo ∙ f; whole = w }

  module _ (part list : List ℕ) where
    pub sequence_stopped : (cause : Cause) → cause_number cause ≡ sequence_number k h q (length part) → (n : ℕ) → n ≡ cause_number cause → (r : Survey) → r ≡ refusal n
        → SequenceSurveyed k h q part list r list
    sequence_stopped cause e n en r er = refused_by _ _ list n r (sym (en ∙ e)) (λ z. never_zero cause (sym en ∙ z)) er

    pub sequence_surveyed : (y : System) → SequenceKnown k h q (length part) y → (list' : List ℕ) (old new : FaultList) (r : Survey) → NotedIn old (next_faults y h q part 0) new
        → old.numbers.now ≡ list → old.total ≡ 0 → (length list' ≡ length list) × (old.numbers.ghost_name ≡ new.numbers.ghost_name → list' ≡ new.numbers.now)
        → r ≡ tallied new.total (length new.numbers.now) → SequenceSurveyed k h q part list r list'
    sequence_surveyed y is list' old new r noted ea et back er' =
        let t = new.total in
        let nt : Noted list 0 (next_faults y h q part 0) list' t = rw et at (in_noted old new list list' noted ea back) in
        let er : r ≡ tallied t (length list) = er' ∙ ap (tallied t) (in_size old new list list' noted ea back) in
        let i = inside_means y h q is.inside in
        rw er (survey_done _ _ list list' t _ (sequence_0 k h q (length part) y is.known is.inside is.whole) (rw (next_inside y h q part 0 i.0 i.1 is.whole (omega arith)) at nt) refl)
