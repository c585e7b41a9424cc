-- The block of a sample names its place in a frame without faults. Assumes nothing.
use mathlib.Core.Path.{◌≡◌}
use mathlib.Core.Bool.{true}
use mathlib.Core.List.{List}
use Prim.Native.Nat.{ℕ, ◌<◌}
use native.Mathlib.Omega.{arith}
use Rattle.paper.specs.declared.System.{System}
use Rattle.paper.specs.declared.Section.TheVariants.{Audio}
use Rattle.rules_format.specs.Systems.{half_of}
use Rattle.rules_format.specs.Sound.{dif_of, sequence_of, audio_of, sound_place}
use Rattle.rules_reads.specs.Check.{fault_in}
use Rattle.rules_format.specs.Reading.{sound_named}
use Rattle.rules_format.proofs.Systems.{half_cases}
use Rattle.rules_format.proofs.Places.{place_in_below}
use Rattle.rules_format.proofs.Sound.{audio_below}
use Rattle.rules_reads.proofs.Check.{fault_zero}
use Rattle.rules_format.proofs.Reading.{sound_sequence}

module _ (y : System) (frame : List ℕ) (c t : ℕ) where
  pub sound_clean : fault_in y frame ≡ 0 → 0 < c → c < 9 → sound_named y frame c t ≡ true
  sound_clean z c1 c8 =
      fault_zero y frame z (dif_of c) (sequence_of (half_of y) c t) (sound_place (half_of y) t) (omega arith) (sound_sequence y frame c t)
      (place_in_below Audio (audio_of (half_of y) t) (audio_below (half_of y) (half_cases y) t))
