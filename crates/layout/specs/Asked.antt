-- What every call on a frame refuses first, and what it then knows.
use Rattle.std.specs.Prelude.{◌≡◌, List, [], ◌∷◌, ℕ, ◌*◌, not, eqb, Some}
use Rattle.base.specs.Calls.{Refusal, ◌when◌}
use Rattle.paper.specs.declared.System.{System}
use Rattle.rules_format.specs.Systems.{sequences_of, system_of, is_no_system, frame_bytes}

-- 1: no system; 2: another length than its frame's
abbrev pub frame_rows : ℕ → ℕ → List Refusal
frame_rows k bytes = 1 when is_no_system (system_of k) ∷ 2 when not (eqb bytes (frame_bytes (system_of k))) ∷ []

-- system k is y, whose frame has so many bytes
pub record FrameKnown (k bytes : ℕ) (y : System) : Type 0 where
  pub known : system_of k ≡ Some y
  pub whole : bytes ≡ 48000 * sequences_of y
