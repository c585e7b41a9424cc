-- What the private functions ask of their callers.
use Rattle.std.specs.Prelude.{◌≡◌, List, ℕ, ◌*◌, ◌≤◌, ◌<◌, ℤ, length}
use Rattle.paper.specs.declared.System.{System}
use Rattle.rules_format.specs.Systems.{sequences_of, half_of}

-- a block, its number, and samples for 35 turns, each of 9s
pub record BlockAsked (block : List ℕ) (y : System) (samples : List ℤ) (a : ℕ) : Type 0 where
  pub long : length block ≡ 80
  pub below : a < 9
  pub turns : 315 * half_of y ≤ length samples

pub record PartAsked (part : List ℕ) (y : System) (samples : List ℤ) : Type 0 where
  pub long : length part ≡ 12000
  pub turns : 315 * half_of y ≤ length samples

pub record RankAsked (y : System) (i r : ℕ) : Type 0 where
  pub below : i < 8
  pub rank : r < half_of y

pub record FrameAsked (frame : List ℕ) (y : System) (i : ℕ) (samples : List ℤ) : Type 0 where
  pub whole : length frame ≡ 48000 * sequences_of y
  pub below : i < 8
  pub turns : 315 * half_of y ≤ length samples
