-- Laws of what a frame says of a sample. Assumes nothing.
use mathlib.Core.Path.{◌≡◌}
use mathlib.Core.Bool.{true, false}
use mathlib.Core.List.{List}
use Prim.Native.Nat.{ℕ, ◌<◌}
use native.Mathlib.Omega.{arith}
use Rattle.base.proofs.Picks.{pick_true, pick_false}
use Rattle.paper.specs.declared.System.{System}
use Rattle.paper.specs.declared.Sample.TheVariants.{Lost}
use Rattle.rules_format.specs.Systems.{sequences_of, half_of}
use Rattle.rules_format.specs.Sound.{rank_of, sequence_of}
use Rattle.rules_format.specs.Reading.{sound_named, read_sample, salvaged_sample}
use Rattle.rules_format.proofs.Systems.{half_cases, half_twice}
use Rattle.rules_format.proofs.Sound.{rank_below, sequence_below}

module _ (y : System) (frame : List ℕ) (c t : ℕ) where
  -- ---- salvaged_sample: the word's sample where the block names its place, lost where it does not

  pub salvaged_named : sound_named y frame c t ≡ true → salvaged_sample y frame c t ≡ read_sample y frame c t
  unfolding salvaged_sample
  salvaged_named e = pick_true _ _ e

  pub salvaged_lost : sound_named y frame c t ≡ false → salvaged_sample y frame c t ≡ Lost
  unfolding salvaged_sample
  salvaged_lost e = pick_false _ _ e

  -- ---- sound_block: where it lies

  pub sound_sequence : sequence_of (half_of y) c t < sequences_of y
  sound_sequence = omega (arith, half_twice y, sequence_below (half_of y) c (rank_of (half_of y) t) (half_cases y) (rank_below (half_of y) (half_cases y) t))
