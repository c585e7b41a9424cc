-- The words of an audio block, from the samples of its audio channel.
use Rattle.std.specs.Prelude.{Bool, ◌&&◌, List, ◌++◌, ℕ, ◌+◌, ◌*◌, eqb, ltb, leb, ℤ, length, drop}
use Rattle.base.specs.Pick.{pick}
use Rattle.base.specs.Run.{run}
use Rattle.paper.specs.declared.System.{System}
use Rattle.rules_format.specs.Systems.{half_of}
use Rattle.rules_format.specs.Samples.{bytes_of}
use Rattle.rules_format.specs.Sound.{rank_at, sample_at}
use Rattle.rules_writes.specs.Written.{sample_word, word_bytes}

-- the words that are below the count, where sample t is the last word's: all 36, or all but that
abbrev pub words_below : List ℤ → ℕ → ℕ
words_below samples t = pick (ltb t (length samples)) 36 35

-- of so many bytes the first words are written, and the rest stays
abbrev pub filled_with : (ℕ → List ℕ) → ℕ → List ℕ → List ℕ
filled_with pair n part = run pair n ++ drop (n * 2) part

-- the bytes of word w, where the block's samples are `step` apart
unfoldable pub word_pair : List ℤ → ℕ → ℕ → ℕ → List ℕ
word_pair samples first step w = bytes_of (sample_word samples (step * w + first))

unfoldable pub pairs_put : List ℤ → ℕ → ℕ → List ℕ → List ℕ
pairs_put samples first step part = filled_with (word_pair samples first step) (words_below samples (step * 35 + first)) part

-- bytes 8 to 79 of A(a) of sequence q
unfoldable pub words_put : System → List ℤ → ℕ → ℕ → List ℕ → List ℕ
words_put y samples q a part = filled_with (word_bytes y samples q a) (words_below samples (sample_at (half_of y) (rank_at (half_of y) q) a 35)) part

-- so many bytes are those of a block's words, its number is below nine, and so many samples are enough for 35 turns, each of 9s
unfoldable pub words_fit : ℕ → System → ℕ → ℕ → Bool
words_fit size y n a = (eqb size 72 && ltb a 9) && leb (315 * half_of y) n
