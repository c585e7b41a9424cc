-- The refusals that every call on a frame begins with. Assumes nothing.
use mathlib.Core.Path.{◌≡◌, sym, ◌∙◌}
use mathlib.Core.List.{List, ◌++◌}
use Prim.Native.Nat.{ℕ}
use Rattle.base.specs.Calls.{Refusal, first_of}
use Rattle.base.proofs.Picks.{first_stops}
use Rattle.paper.specs.declared.Cause.{Cause}
use Rattle.paper.specs.Causes.{cause_number}
use Rattle.layout.specs.Asked.{frame_rows}
use Rattle.layout.proofs.Saying.{never_zero}

-- a call that begins with them stops with them
pub frame_stops : (k bytes : ℕ) (more : List Refusal) (cause : Cause) → cause_number cause ≡ first_of (frame_rows k bytes)
    → cause_number cause ≡ first_of (frame_rows k bytes ++ more)
frame_stops k bytes more cause e = e ∙ sym (first_stops (frame_rows k bytes) more (λ z. never_zero cause (e ∙ z)))
