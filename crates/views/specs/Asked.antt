-- What the private function asks and says.
use Rattle.std.specs.Prelude.{◌≡◌, List, ℕ, ◌+◌, ◌*◌, ◌≤◌, ◌<◌}
use Rattle.paper.specs.declared.System.{System}
use Rattle.paper.specs.declared.Place.{Place}
use Rattle.rules_format.specs.Systems.{sequences_of}
use Rattle.rules_format.specs.Blocks.{start_of}
use Rattle.rules_surveys.specs.View.{ViewLies}

-- a place of the frame
pub record InFrame (y : System) (h q p : ℕ) : Type 0 where
  pub channel : h < 4
  pub sequence : q < sequences_of y
  pub place : p < 150

-- r is where its block starts
pub record StartIs (y : System) (h q p r : ℕ) : Type 0 where
  pub is : r ≡ start_of y h q p
  pub within : r + 80 ≤ 48000 * sequences_of y
  pub small : r < 576000

-- the view lies at byte r
pub record FoundAt (k : ℕ) (frame : List ℕ) (h q : ℕ) (p : Place) (r : ℕ) : Type 0 where
  pub lies : ViewLies k frame h q p (record { number = 0; start = r; length = 80 })
  pub small : r < 576000
