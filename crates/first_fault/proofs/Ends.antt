-- The first fault of a run, which ends the loop over it. f i are the faults of turn i. Assumes nothing.
use mathlib.Core.Path.{◌≡◌, refl, sym, ap, ◌∙◌}
use mathlib.Core.List.{List, [], ◌∷◌, ◌++◌}
use mathlib.Core.Bool.{Bool, true}
use Prim.Native.Nat.{ℕ, ◌+◌, ◌*◌, ◌-◌, ◌≤◌, ◌<◌}
use native.Mathlib.Omega.{arith}
use lib.ListN.{take, drop}
use borrow.Author.Tests.{eq-eqb, ne_eqb}
use Rattle.base.specs.Pick.{pick}
use Rattle.base.specs.Run.{run}
use Rattle.base.proofs.Cases.{by_eq}
use Rattle.base.proofs.Parts.{range_part}
use Rattle.base.proofs.Runs.{run_more, run_split}
use Rattle.paper.specs.declared.Fault.{Fault}
use Rattle.rules_format.specs.Blocks.{block_in}
use Rattle.rules_format.specs.Faults.{fault_at}
use Rattle.rules_surveys.specs.FaultLists.{block_faults, place_faults, sequence_faults}
use Rattle.rules_reads.specs.Check.{first_fault}
use Rattle.judged_bits.specs.Clean.{Clean}
use Rattle.first_fault.specs.Asked.{FirstFaultIs}

-- ---- the first fault of a run: before turn i there is none, and r is the first of turn i

pub first_none : FirstFaultIs 0 []
unfolding first_fault
first_none = record { first = refl; none = λ z. refl }

-- the first of some is the first of more
first_longer : (fs more : List Fault) → (first_fault fs ≡ 0 → ⊥) → first_fault (fs ++ more) ≡ first_fault fs
unfolding first_fault
first_longer [] more d = absurd (d refl)
first_longer (x ∷ fs) more d = refl

module _ (f : ℕ → List Fault) (i r : ℕ) (before : run f i ≡ []) (m : FirstFaultIs r (f i)) where
  so_far : run f (i + 1) ≡ f i
  so_far = rw run_more (rw before refl)

  pub ends_not : r ≡ 0 → run f (i + 1) ≡ []
  ends_not z = so_far ∙ m.none z

  pub ends_here : (k : ℕ) → i < k → (r ≡ 0 → ⊥) → FirstFaultIs r (run f k)
  ends_here k l d =
      let same : k ≡ i + 1 + (k - (i + 1)) = omega (arith, l) in
      let more = run (λ (j : ℕ). f (i + 1 + j)) (k - (i + 1)) in
      let split : run f k ≡ f i ++ more = ap (run f) same ∙ run_split f (i + 1) (k - (i + 1)) ∙ ap (λ (fs : List Fault). fs ++ more) so_far in
      let first : first_fault (run f k) ≡ first_fault (f i) = ap first_fault split ∙ first_longer (f i) more (λ z. d (m.first ∙ z)) in
      record { first = m.first ∙ sym first; none = λ z. absurd (d z) }

-- ---- first_part: place p, whose block is lent and has fault r

-- a block's fault is the first of its faults
first_block : (block : List ℕ) (h q p : ℕ) → FirstFaultIs (fault_at block h q p) (block_faults block h q p)
unfolding block_faults pick first_fault
first_block block h q p =
    let f = fault_at block h q p in
    by_eq f 0
    (λ z. rw (eq-eqb f 0 z) (record { first = z; none = λ _. refl }))
    (λ d. rw (ne_eqb f 0 d) (record { first = refl; none = λ z. absurd (d z) }))

module _ (part : List ℕ) (h q p : ℕ) (before : run (place_faults part h q) p ≡ []) (r : ℕ) (e : r ≡ fault_at (take (p * 80 + 80 - p * 80) (drop (p * 80) part)) h q p) where
  here : FirstFaultIs r (place_faults part h q p)
  unfolding block_in
  here = rw e (rw (range_part (p * 80) 80 part) (first_block (take 80 (drop (p * 80) part)) h q p))

  pub place_clean : r ≡ 0 → run (place_faults part h q) (p + 1) ≡ []
  place_clean = ends_not (place_faults part h q) p r before here

  pub place_ends : p < 150 → (r ≡ 0 → ⊥) → FirstFaultIs r (sequence_faults part h q)
  unfolding sequence_faults
  place_ends = ends_here (place_faults part h q) p r before here 150

pub places_clean : (part : List ℕ) (h q p : ℕ) → p ≤ 150 → 150 ≤ p → run (place_faults part h q) p ≡ [] → FirstFaultIs 0 (sequence_faults part h q)
unfolding sequence_faults
places_clean part h q p a b e = let same : p ≡ 150 = omega arith in rw (rw same at e) first_none

-- ---- first_sequence

pub clear_none : (part : List ℕ) (h q : ℕ) (r : Bool) → Clean r (sequence_faults part h q) → r ≡ true → FirstFaultIs 0 (sequence_faults part h q)
clear_none part h q r c s = rw (c.none s) first_none
