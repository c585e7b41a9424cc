-- What the loop over the sequences of the stream keeps, and the ways out of `first_fault`. Assumes nothing.
use mathlib.Core.Path.{◌≡◌, sym, ap, ◌∙◌}
use mathlib.Core.List.{List, []}
use Prim.Native.Nat.{ℕ, ◌+◌, ◌*◌, ◌-◌, ◌/◌, ◌%◌, ◌≤◌, ◌<◌}
use native.Mathlib.Omega.{arith}
use native.Mathlib.Nat.{div-add-mod, div-lt_iff_lt-mul, mod-lt}
use lib.ListN.{length, take, drop}
use borrow.Author.Tests.{eq-eqb, ne_eqb}
use Rattle.base.specs.Run.{run}
use Rattle.base.proofs.Parts.{range_part, length_part}
use Rattle.base.proofs.Picks.{pick_true, pick_false}
use Rattle.base.proofs.Runs.{run_same, run_runs}
use Rattle.paper.specs.declared.System.{System}
use Rattle.rules_format.specs.Systems.{sequences_of}
use Rattle.rules_format.specs.Blocks.{sequence_at}
use Rattle.rules_surveys.specs.FaultLists.{sequence_faults, part_faults, channel_faults, frame_faults}
use Rattle.rules_format.proofs.Systems.{sequences_le, sequences_some}
use Rattle.judged_bits.specs.Clean.{PartAsked}
use Rattle.first_fault.specs.Asked.{FirstFaultIs, stream_faults, first_or_length}
use Rattle.first_fault.proofs.Ends.{first_none, ends_not, ends_here}

-- ---- first_in: sequence j of the stream, and r its first fault

-- the faults of a frame, sequence by sequence
frame_stream : (y : System) (frame : List ℕ) → frame_faults y frame ≡ run (stream_faults frame (sequences_of y)) (sequences_of y * 4)
unfolding frame_faults channel_faults stream_faults sequence_at
frame_stream y frame =
    let n = sequences_of y in
    sym (
    run_same _ _ (n * 4) (λ j l.
    let e : j * 12000 ≡ (n * (j / n) + j % n) * 12000 = ap (λ (i : ℕ). i * 12000) (sym (div-add-mod j n)) in
    ap (λ (i : ℕ). sequence_faults (take 12000 (drop i frame)) (j / n) (j % n)) e)
    ∙ run_runs (part_faults y frame) n 4 (sequences_some y))

module _ (y : System) (frame : List ℕ) (n j : ℕ) (whole : length frame ≡ 48000 * sequences_of y) (en : n ≡ sequences_of y) (l : j < n * 4) where
  pub stream_asked : PartAsked (take (j * 12000 + 12000 - j * 12000) (drop (j * 12000) frame)) (j / n) (j % n)
  stream_asked =
      let some : 0 < n = omega (arith, en, sequences_some y) in
      let l' : j < 4 * n = omega (arith, l) in
      record {
        whole = ap length (range_part (j * 12000) 12000 frame) ∙ length_part (j * 12000) 12000 frame (omega (arith, whole, en, l));
        sequence = record { channel = (div-lt_iff_lt-mul some).1 l'; sequence = omega (arith, mod-lt j some, en, sequences_le y) };
      }

module _ (frame : List ℕ) (n j : ℕ) (before : run (stream_faults frame n) j ≡ []) (r : ℕ) (m : FirstFaultIs r (sequence_faults (take (j * 12000 + 12000 - j * 12000) (drop (j * 12000) frame)) (j / n) (j % n))) where
  here : FirstFaultIs r (stream_faults frame n j)
  unfolding stream_faults
  here = rw (range_part (j * 12000) 12000 frame) at m

  pub stream_clean : r ≡ 0 → run (stream_faults frame n) (j + 1) ≡ []
  stream_clean = ends_not (stream_faults frame n) j r before here

  pub stream_ends : (y : System) → n ≡ sequences_of y → j < n * 4 → (r ≡ 0 → ⊥) → FirstFaultIs r (frame_faults y frame)
  stream_ends y en l d = rw (frame_stream y frame) (rw en at (ends_here (stream_faults frame n) j r before here (n * 4) l d))

pub streams_clean : (y : System) (frame : List ℕ) (n j : ℕ) → n ≡ sequences_of y → j ≤ n * 4 → n * 4 ≤ j → run (stream_faults frame n) j ≡ [] → FirstFaultIs 0 (frame_faults y frame)
streams_clean y frame n j en a b e =
    let same : j ≡ n * 4 = omega (arith, a, b) in
    rw (frame_stream y frame) (rw (rw (same, en) at e) first_none)

-- ---- first_fault

module _ (y : System) (frame : List ℕ) (m : ℕ) (em : m ≡ 48000 * sequences_of y) where
  pub first_wrong_length : (length frame ≡ m → ⊥) → 2 ≡ first_or_length y frame
  unfolding first_or_length
  first_wrong_length d = sym (pick_false _ _ (ne_eqb _ _ (λ e. d (e ∙ sym em))))

  pub first_found : length frame ≡ m → (r : ℕ) → FirstFaultIs r (frame_faults y frame) → r ≡ first_or_length y frame
  unfolding first_or_length
  first_found e r f = f.first ∙ sym (pick_true _ _ (eq-eqb _ _ (e ∙ em)))
