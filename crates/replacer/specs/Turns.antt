-- What the loops do, turn by turn.
use Rattle.std.specs.Prelude.{List, ℕ, ◌+◌, ◌*◌, ℤ}
use Rattle.base.specs.Run.{run}
use Rattle.base.specs.Put.{put_at, turns}
use Rattle.paper.specs.declared.System.{System}
use Rattle.paper.specs.declared.Section.TheVariants.{Audio}
use Rattle.rules_format.specs.Systems.{half_of}
use Rattle.rules_format.specs.Places.{place_in}
use Rattle.rules_format.specs.Sound.{rank_at, sample_at}
use Rattle.rules_writes.specs.Written.{word_bytes}
use Rattle.sample_words.specs.Words.{words_below}

-- audio block a of the sequence of rank r: its words below the count
unfoldable pub block_words : System → List ℤ → ℕ → ℕ → List ℕ
block_words y samples r a = run (word_bytes y samples r a) (words_below samples (sample_at (half_of y) (rank_at (half_of y) r) a 35))

-- from byte 8 of the block on
abbrev pub words_at : ℕ → ℕ
words_at a = place_in Audio a * 80 + 8

unfoldable pub block_turn : System → List ℤ → ℕ → ℕ → List ℕ → List ℕ
block_turn y samples r a part = put_at (words_at a) (block_words y samples r a) part

-- where the sequence of rank r of audio channel i + 1 starts
abbrev pub rank_start : System → ℕ → ℕ → ℕ
rank_start y i r = (half_of y * i + r) * 12000

-- its nine audio blocks
unfoldable pub rank_turn : System → ℕ → List ℤ → ℕ → List ℕ → List ℕ
rank_turn y i samples r frame = turns (λ (a : ℕ). put_at (rank_start y i r + words_at a) (block_words y samples r a)) 9 frame
