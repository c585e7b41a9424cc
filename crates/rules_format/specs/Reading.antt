-- What a frame says of a sample: the word at the place that the rule of sound gives it (document 01, "Sound").
use Rattle.std.specs.Prelude.{Bool, List, ℕ}
use Rattle.base.specs.Pick.{pick}
use Rattle.paper.specs.declared.System.{System}
use Rattle.paper.specs.declared.Sample.{Sample}
use Rattle.paper.specs.declared.Sample.TheVariants.{Lost}
use Rattle.rules_format.specs.Systems.{half_of}
use Rattle.rules_format.specs.Blocks.{block_at}
use Rattle.rules_format.specs.Samples.{sample_of, word_at}
use Rattle.rules_format.specs.Sound.{dif_of, sequence_of, sound_place, byte_of}
use Rattle.rules_format.specs.Faults.{names}

-- the block of position t of audio channel c
abbrev pub sound_block : System → List ℕ → ℕ → ℕ → List ℕ
sound_block y frame c t = block_at y frame (dif_of c) (sequence_of (half_of y) c t) (sound_place (half_of y) t)

-- it names its place
abbrev pub sound_named : System → List ℕ → ℕ → ℕ → Bool
sound_named y frame c t = names (sound_block y frame c t) (dif_of c) (sequence_of (half_of y) c t) (sound_place (half_of y) t)

-- the sample of its word, as stored
unfoldable pub read_sample : System → List ℕ → ℕ → ℕ → Sample
read_sample y frame c t = sample_of (word_at (sound_block y frame c t) (byte_of (half_of y) t))

-- the same where the block names its place, and lost where it does not
unfoldable pub salvaged_sample : System → List ℕ → ℕ → ℕ → Sample
salvaged_sample y frame c t = pick (sound_named y frame c t) (read_sample y frame c t) Lost
