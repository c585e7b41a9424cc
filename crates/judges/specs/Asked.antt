-- What the private functions ask and say.
use Rattle.std.specs.Prelude.{◌≡◌, List, ℕ, ◌+◌, ◌≤◌, ◌<◌, take, drop}
use Rattle.paper.specs.declared.System.{System}
use Rattle.paper.specs.declared.Place.{Place}
use Rattle.rules_reads.specs.Audio.{first_of_half}

-- the sequence that starts at byte `at` of a frame
unfoldable pub sequence_from : List ℕ → ℕ → List ℕ
sequence_from frame at = take 12000 (drop at frame)

-- a start that leaves room for a sequence in what a usize counts
pub record Low (at : ℕ) : Type 0 where
  pub low : at < 1000000000000000

-- a pack from byte i on lies in the block at place p
pub record InBlock (p : Place) (i : ℕ) : Type 0 where
  pub place : p.0 < 150
  pub within : i + 5 ≤ 80

-- r is the first sequence of an audio channel's half
pub record FirstInHalf (y : System) (c r : ℕ) : Type 0 where
  pub is : r ≡ first_of_half y c
  pub few : r < 7

-- k sequences from sequence q on
pub record SequencesAsked (q k : ℕ) : Type 0 where
  pub first : q < 13
  pub few : k < 13
