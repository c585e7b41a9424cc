-- Whether what is lent fits a block's writer; a part that does not fit stays as it is.
use Rattle.std.specs.Prelude.{Bool, ◌&&◌, ℕ, ◌*◌, eqb, ltb, leb}
use Rattle.paper.specs.declared.System.{System}
use Rattle.rules_format.specs.Systems.{half_of, macroblocks_of}

-- a part of so many bytes is a block, and its number below that of its section's blocks
abbrev pub number_fits : ℕ → ℕ → ℕ → Bool
number_fits size k blocks = eqb size 80 && ltb k blocks

-- and so many samples of its audio channel are enough for 35 turns, each of 9s
unfoldable pub audio_fits : ℕ → System → ℕ → ℕ → Bool
audio_fits size y n a = (eqb size 80 && ltb a 9) && leb (315 * half_of y) n

-- and so many bytes are the system's macroblocks
unfoldable pub video_fits : ℕ → System → ℕ → Bool
video_fits size y bytes = eqb size 80 && eqb bytes (77 * macroblocks_of y)
