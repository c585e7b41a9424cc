-- What the private functions ask of their callers.
use Rattle.std.specs.Prelude.{◌≡◌, List, ℕ, ◌*◌, ◌≤◌, ◌<◌, ℤ, length}

pub record WordAsked (part : List ℕ) (word : ℕ) : Type 0 where
  pub long : length part ≡ 2
  pub small : word < 65536

-- 35 turns are within the samples
pub record WordsAsked (part : List ℕ) (samples : List ℤ) (first step : ℕ) : Type 0 where
  pub long : length part ≡ 72
  pub turns : step * 35 ≤ length samples
  pub start : first < step
  pub few : step ≤ 54
