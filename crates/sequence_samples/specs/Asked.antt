-- What the private functions ask of their callers.
use Rattle.std.specs.Prelude.{◌≡◌, List, ℕ, ◌*◌, ◌≤◌, ◌<◌, length}
use Rattle.paper.specs.declared.System.{System}
use Rattle.rules_format.specs.Systems.{positions_of}

-- the words of a block, for n samples
pub record WordsAsked (block : List ℕ) (first step n : ℕ) : Type 0 where
  pub whole : length block ≡ 80
  pub start : first < step
  pub small : step ≤ 54
  pub room : n ≤ 36 * step

-- audio block a, for n samples
pub record BlockAsked (block : List ℕ) (y : System) (a n : ℕ) : Type 0 where
  pub whole : length block ≡ 80
  pub audio : a < 9
  pub room : n ≤ positions_of y

pub record PartAsked (part : List ℕ) (y : System) (n : ℕ) : Type 0 where
  pub whole : length part ≡ 12000
  pub room : n ≤ positions_of y
