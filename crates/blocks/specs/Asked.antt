-- What the private functions ask of their callers.
use Rattle.std.specs.Prelude.{◌≡◌, List, ℕ, ◌*◌, ◌≤◌, ◌<◌, ℤ, length}
use Rattle.paper.specs.declared.System.{System}
use Rattle.rules_format.specs.Systems.{half_of, macroblocks_of}

pub record SsybAsked (part : List ℕ) (k : ℕ) : Type 0 where
  pub long : length part ≡ 8
  pub below : k < 12

pub record SsybsAsked (part : List ℕ) (k : ℕ) : Type 0 where
  pub long : length part ≡ 48
  pub below : k < 2

pub record PacksAsked (part : List ℕ) (k : ℕ) : Type 0 where
  pub long : length part ≡ 75
  pub below : k < 3

-- a block, and its number below that of its section's blocks
pub record NumberAsked (block : List ℕ) (k blocks : ℕ) : Type 0 where
  pub long : length block ≡ 80
  pub below : k < blocks

-- a part of so many bytes of A(a), and samples for 35 turns, each of 9s
pub record AudioAsked (part : List ℕ) (size : ℕ) (y : System) (samples : List ℤ) (a : ℕ) : Type 0 where
  pub long : length part ≡ size
  pub below : a < 9
  pub turns : 315 * half_of y ≤ length samples

pub record VideoAsked (block : List ℕ) (y : System) (macroblocks : List ℕ) : Type 0 where
  pub long : length block ≡ 80
  pub pictures : length macroblocks ≡ 77 * macroblocks_of y
