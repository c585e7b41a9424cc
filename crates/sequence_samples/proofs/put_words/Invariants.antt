use mathlib.Core.Path.{◌≡◌}
use Prim.Native.Nat.{ℕ, ◌+◌, ◌-◌, ◌*◌, ◌≤◌}
use Rattle.sequence_samples.specs.Taken.{held_word, Placed}
use Rattle.sequence_samples.proofs.put_words.Given as goal

abbrev pub invariant-loop-t : goal.invariant-loop-t
invariant-loop-t l = Placed l.first l.step (λ (k : ℕ). held_word l.named l.block (8 + 2 * k)) l.w l.initial.samples l.samples × (l.t ≡ l.first + l.step * l.w) × (l.w ≤ 36)

abbrev pub decreases-loop-t : goal.decreases-loop-t
decreases-loop-t l = 36 - l.w
