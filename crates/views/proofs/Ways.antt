-- What a start is, and the ways out of the calls. Assumes nothing.
use Rattle.std.specs.Prelude.{Some}
use mathlib.Core.Path.{◌≡◌, refl, sym, ap, ◌∙◌}
use mathlib.Core.List.{List}
use mathlib.Core.Bool.{Bool, true, false, ◌||◌}
use Prim.Native.Nat.{ℕ, ◌+◌, ◌*◌, ◌≤◌, ◌<◌, ◌-◌}
use native.Mathlib.Omega.{arith}
use lib.Dec.{leb}
use lib.ListN.{length, take, drop}
use borrow.Author.Tests.{leb-false}
use Rattle.base.proofs.Parts.{range_part}
use Rattle.base.proofs.Picks.{neither}
use Rattle.base.specs.Calls.{first_of}
use Rattle.paper.specs.declared.System.{System}
use Rattle.paper.specs.declared.Cause.{Cause}
use Rattle.paper.specs.Causes.{cause_number}
use Rattle.layout.specs.Asked.{FrameKnown, frame_rows}
use Rattle.layout.proofs.Saying.{never_zero}
use Rattle.layout.proofs.Refusing.{frame_stops}
use Rattle.paper.specs.declared.Place.{Place}
use Rattle.paper.specs.declared.Part.{Part}
use Rattle.rules_format.specs.Systems.{sequences_of}
use Rattle.rules_format.specs.Blocks.{block_at, no_part}
use Rattle.rules_format.specs.Faults.{fault_at}
use Rattle.rules_surveys.specs.Survey.{outside_sequences}
use Rattle.rules_surveys.specs.View.{view_number, ViewNumbered, Viewed, ViewLies}
use Rattle.rules_format.proofs.Systems.{sequences_le}
use Rattle.rules_format.proofs.Blocks.{before_channel, start_within}
use Rattle.rules_surveys.proofs.Calls.{inside_means, view_3, view_fault, view_lies_stopped, view_lies_found, view_lies_number}
use Rattle.rules_surveys.proofs.Calls.{view_lies_within}
use Rattle.views.specs.Asked.{InFrame, StartIs, FoundAt}

-- ---- block_start

module _ (y : System) (h q p s : ℕ) (i : InFrame y h q p) (e : s ≡ (sequences_of y * h + q) * 12000) where
  pub starts_below : s < 576000
  starts_below = omega (arith, e, i.sequence, before_channel (sequences_of y) h i.channel, sequences_le y)

  pub start_is : StartIs y h q p (s + p * 80)
  start_is =
      let within = start_within y h q p i.channel i.sequence i.place in
      record { is = omega (arith, e); within = omega (arith, e, within); small = omega (arith, e, within, sequences_le y) }

-- ---- viewed

module _ (k : ℕ) (frame : List ℕ) (h q : ℕ) (p : Place) where
  pub view_stops : (cause : Cause) → cause_number cause ≡ first_of (frame_rows k (length frame)) → cause_number cause ≡ view_number k frame h q p
  unfolding view_number
  view_stops = frame_stops k (length frame) _

  module _ (y : System) (is : FrameKnown k (length frame) y) where
    pub view_within : (at : ℕ) → StartIs y h q p.0 at → at + 80 ≤ length frame
    view_within at st = omega (arith, st.within, is.whole)

    module _ (o : Bool) (eo : o ≡ outside_sequences (Some y) h q) where
      pub view_outside : (o || leb 150 p.0) ≡ true → 3 ≡ view_number k frame h q p
      view_outside t = sym (view_3 k frame h q p y is.known is.whole (rw eo at t))

      module _ (f : (o || leb 150 p.0) ≡ false) (at : ℕ) (st : StartIs y h q p.0 at) where
        pub view_faulty : (fault : ℕ) → fault ≡ fault_at (take (at + 80 - at) (drop at frame)) h q p.0 → fault ≡ view_number k frame h q p
        unfolding block_at
        view_faulty fault ef = ef ∙ rw (range_part at 80 frame, st.is) refl ∙ sym (view_fault k frame h q p y is.known is.whole (rw eo at f))

        pub view_found : 0 ≡ fault_at (take (at + 80 - at) (drop at frame)) h q p.0 → FoundAt k frame h q p at
        view_found ef =
            record {
              lies = rw st.is (view_lies_found k frame h q p y is.known (sym (view_faulty 0 ef)));
              small = st.small;
            }

-- a place that is not outside is in the frame
pub view_in : (y : System) (h q : ℕ) (p : Place) (o : Bool) → o ≡ outside_sequences (Some y) h q → (o || leb 150 p.0) ≡ false → InFrame y h q p.0
view_in y h q p o eo f =
    let both = neither o (leb 150 p.0) f in
    let i = inside_means y h q (sym eo ∙ both.0) in
    record { channel = i.0; sequence = i.1; place = leb-false _ _ both.1 }

-- ---- view_at

pub view_refused : (k : ℕ) (frame : List ℕ) (h q : ℕ) (p : Place) (cause : Cause) → cause_number cause ≡ view_number k frame h q p → (number : ℕ) → number ≡ cause_number cause → (r : Part) → r ≡ no_part number → ViewLies k frame h q p r
view_refused k frame h q p cause e number en r er =
    view_lies_stopped k frame h q p (cause_number cause) e (never_zero cause) r (er ∙ ap no_part en)

-- ---- view_number and view

module _ (k : ℕ) (frame : List ℕ) (h q : ℕ) (p : Place) (r : Part) (m : ViewLies k frame h q p r) where
  pub part_numbered : ViewNumbered k frame h q p r.number
  part_numbered = record { answer = view_lies_number k frame h q p m }

  pub part_ends : r.start + r.length ≤ length frame
  part_ends = view_lies_within k frame h q p m

  pub part_viewed : Viewed k frame h q p (take (r.start + r.length - r.start) (drop r.start frame))
  part_viewed = record { answer = range_part r.start r.length frame ∙ m.bytes }
