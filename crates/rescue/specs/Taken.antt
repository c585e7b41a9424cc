-- What a frame says of its samples, audio channel by audio channel.
use Rattle.std.specs.Prelude.{Bool, ◌&&◌, List, ℕ, ◌+◌, ◌*◌, eqb, leb, ℤ, length}
use Rattle.base.specs.Pick.{pick}
use Rattle.base.specs.Run.{run, tab}
use Rattle.paper.specs.declared.System.{System}
use Rattle.paper.specs.declared.Fault.{Fault}
use Rattle.rules_format.specs.Systems.{sequences_of, half_of, positions_of}
use Rattle.rules_format.specs.Samples.{number_of}
use Rattle.rules_format.specs.Sound.{dif_of, half_at}
use Rattle.rules_surveys.specs.FaultLists.{part_faults}
use Rattle.rules_reads.specs.Audio.{is_audio}
use Rattle.rules_format.specs.Reading.{salvaged_sample}
use Rattle.rules_surveys.specs.Salvage.{salvaged_channel}

-- sample t of audio channel c
abbrev pub held_sample : System → List ℕ → ℕ → ℕ → ℤ
held_sample y frame c t = number_of (salvaged_sample y frame c t)

-- ---- the first samples of an audio channel

-- a frame of so many bytes, audio channel c and room for so many samples fit the system
unfoldable pub samples_fit : System → ℕ → ℕ → ℕ → Bool
samples_fit y size c room = eqb size (48000 * sequences_of y) && (is_audio c && leb room (positions_of y))

unfoldable pub samples_left : System → List ℕ → ℕ → List ℤ → List ℤ
samples_left y frame c samples = pick (samples_fit y (length frame) c (length samples)) (tab (held_sample y frame c) (length samples)) samples

-- ---- audio channel by audio channel; they are numbered from 0 here

-- the samples of audio channel i + 1
unfoldable pub half_samples : System → List ℕ → ℕ → List ℤ
half_samples y frame i = salvaged_channel y frame (i + 1)

-- its sequence of rank r, and the faults there
abbrev pub rank_sequence : System → ℕ → ℕ → ℕ
rank_sequence y i r = half_of y * half_at (i + 1) + r

abbrev pub rank_faults : System → List ℕ → ℕ → ℕ → List Fault
rank_faults y frame i r = part_faults y frame (dif_of (i + 1)) (rank_sequence y i r)

unfoldable pub half_faults : System → List ℕ → ℕ → List Fault
half_faults y frame i = run (rank_faults y frame i) (half_of y)
