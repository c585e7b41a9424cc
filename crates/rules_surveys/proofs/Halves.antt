-- A frame's sequences as the halves of its audio channels: audio channels 1 to 8 in their order are the sequences in stream order.
-- Assumes nothing.
use mathlib.Core.Path.{◌≡◌, sym, ap, ap₂, ◌∙◌}
use mathlib.Core.List.{List, ◌++◌}
use Prim.Native.Nat.{ℕ, ◌+◌, ◌*◌, ◌/◌, ◌%◌, ◌≤◌}
use native.Mathlib.Nat.{mul-add}
use native.Mathlib.Omega.{arith}
use lib.ListN.{length}
use Rattle.base.specs.Run.{run}
use Rattle.base.proofs.Runs.{run_same, run_split, run_runs, run_length_le}
use Rattle.paper.specs.declared.System.{System}
use Rattle.paper.specs.declared.Fault.{Fault}
use Rattle.rules_format.specs.Systems.{sequences_of, half_of}
use Rattle.rules_format.specs.Blocks.{sequence_at}
use Rattle.rules_format.specs.Sound.{dif_of, half_at}
use Rattle.rules_surveys.specs.FaultLists.{part_faults, channel_faults, frame_faults}
use Rattle.rules_format.proofs.Systems.{half_twice, half_cases}
use Rattle.rules_format.proofs.Sound.{half_le}
use Rattle.rules_surveys.proofs.FaultLists.{sequence_faults_le}

-- ---- where a half starts: after the s sequences of each audio channel before

pub half_start : (y : System) (i : ℕ) → sequences_of y * dif_of (i + 1) + half_of y * half_at (i + 1) ≡ half_of y * i
half_start y i =
    let s = half_of y in
    let e : i ≡ 2 * dif_of (i + 1) + half_at (i + 1) = omega arith in
    let d : s * i ≡ s * (2 * dif_of (i + 1) + half_at (i + 1)) = ap (λ (j : ℕ). s * j) e in
    omega (arith, half_twice y, d, mul-add s (2 * dif_of (i + 1)) (half_at (i + 1)), ap (λ (n : ℕ). n * dif_of (i + 1)) (half_twice y))

-- ---- the faults, half by half

-- two halves are a DIF channel
two_halves : {A : Type 0} (f : ℕ → List A) (s : ℕ) → run (λ (b : ℕ). run (λ (r : ℕ). f (s * b + r)) s) 2 ≡ run f (s + s)
unfolding run
two_halves f s =
    let first : run (λ (r : ℕ). f (s * 0 + r)) s ≡ run f s = run_same _ _ s (λ r l. ap f (omega arith)) in
    let second : run (λ (r : ℕ). f (s * 1 + r)) s ≡ run (λ (r : ℕ). f (s + r)) s = run_same _ _ s (λ r l. ap f (omega arith)) in
    ap₂ (λ (a b : List _). a ++ b) first second ∙ sym (run_split f s s)

module _ (y : System) (frame : List ℕ) where
  pub faults_halves : frame_faults y frame ≡ run (λ (i : ℕ). run (λ (r : ℕ). part_faults y frame (dif_of (i + 1)) (half_of y * half_at (i + 1) + r)) (half_of y)) 8
  unfolding frame_faults channel_faults
  faults_halves =
      let s = half_of y in
      let n : sequences_of y ≡ s + s = omega (arith, half_twice y) in
      let half : ℕ → ℕ → List Fault = λ h b. run (λ (r : ℕ). part_faults y frame h (s * b + r)) s in
      run_same _ (λ (h : ℕ). run (half h) 2) 4 (λ h l. ap (run (part_faults y frame h)) n ∙ sym (two_halves (part_faults y frame h) s))
      ∙ sym (run_runs half 2 4 (omega arith))
      ∙ run_same _ _ 8 (λ i l.
      let e : i / 2 ≡ dif_of (i + 1) = omega arith in
      let d : i % 2 ≡ half_at (i + 1) = omega arith in
      ap₂ half e d)

  -- how many there can be, of the sequences below rank r of an audio channel and of the audio channels below i
  pub rank_le : (i r : ℕ) → length (run (λ (r : ℕ). part_faults y frame (dif_of (i + 1)) (half_of y * half_at (i + 1) + r)) r) ≤ 150 * r
  rank_le i r =
      let q : ℕ → ℕ = λ j. half_of y * half_at (i + 1) + j in
      omega (arith, run_length_le (λ (j : ℕ). part_faults y frame (dif_of (i + 1)) (q j)) 150 r (λ j. sequence_faults_le (sequence_at y frame (dif_of (i + 1)) (q j)) (dif_of (i + 1)) (q j)))

  pub halves_le : (i : ℕ) → length (run (λ (i : ℕ). run (λ (r : ℕ). part_faults y frame (dif_of (i + 1)) (half_of y * half_at (i + 1) + r)) (half_of y)) i) ≤ 900 * i
  halves_le i =
      let f : ℕ → List Fault = λ j. run (λ (r : ℕ). part_faults y frame (dif_of (j + 1)) (half_of y * half_at (j + 1) + r)) (half_of y) in
      omega (arith, run_length_le f 900 i (λ j. omega (arith, rank_le j (half_of y), half_le (half_of y) (half_cases y))))
