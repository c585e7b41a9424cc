-- What the private functions ask and say.
use Rattle.std.specs.Prelude.{◌≡◌, ℕ, ◌+◌, ◌*◌, ◌≤◌, ◌<◌}
use Rattle.paper.specs.declared.System.{System}
use Rattle.paper.specs.declared.Section.TheVariants.{Video}
use Rattle.paper.specs.declared.BlockNumber.{BlockNumber}
use Rattle.rules_format.specs.Systems.{sequences_of}
use Rattle.rules_format.specs.Places.{place_in}
use Rattle.rules_format.specs.Blocks.{start_of}

-- video block v of sequence q of DIF channel h is one of the system's
pub record SlotAsked (y : System) (h q : ℕ) (v : BlockNumber) : Type 0 where
  pub channel : h < 4
  pub sequence : q < sequences_of y
  pub video : v.0 < 135

-- r is where its 77 bytes start
pub record SlotStart (y : System) (h q : ℕ) (v : BlockNumber) (r : ℕ) : Type 0 where
  pub is : r ≡ start_of y h q (place_in Video v.0) + 3
  pub within : r + 77 ≤ 48000 * sequences_of y
  pub small : r < 576000
