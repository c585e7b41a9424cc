-- What a part of a frame says of its samples, and the list of samples as loops over blocks leave it.
use Rattle.std.specs.Prelude.{◌≡◌, Bool, ◌&&◌, List, ◌⊎◌, ℕ, ◌+◌, ◌*◌, ◌≤◌, ◌<◌, eqb, leb, ℤ, pos, length, get_or}
use Rattle.base.specs.Pick.{pick}
use Rattle.paper.specs.declared.System.{System}
use Rattle.paper.specs.declared.Sample.TheVariants.{Lost}
use Rattle.rules_format.specs.Systems.{positions_of}
use Rattle.rules_format.specs.Blocks.{block_in}
use Rattle.rules_format.specs.Samples.{number_of, sample_of, word_at}
use Rattle.rules_format.specs.Sound.{rank_of, audio_of, sound_place, byte_of}
use Rattle.rules_format.specs.Faults.{names}

-- ---- the number of a sample, by its block and by its sequence

-- the word at a byte of a block, where `named` says that the block names its place
abbrev pub held_word : Bool → List ℕ → ℕ → ℤ
held_word named block i = number_of (pick named (sample_of (word_at block i)) Lost)

-- sample t of its block, which stands in sequence q of DIF channel h
unfoldable pub held_block : ℕ → List ℕ → ℕ → ℕ → ℕ → ℤ
held_block s block h q t = held_word (names block h q (sound_place s t)) block (byte_of s t)

-- sample t of its sequence
unfoldable pub held_part : ℕ → List ℕ → ℕ → ℕ → ℕ → ℤ
held_part s part h q t = held_block s (block_in part (sound_place s t)) h q t

-- ---- the list of an audio channel's samples, before and now

-- the words below n of a block are put where they belong: word k is sample first + step * k
pub record Placed (first step : ℕ) (g : ℕ → ℤ) (n : ℕ) (before now : List ℤ) : Type 0 where
  pub size : length now ≡ length before
  pub hit : (k : ℕ) → k < n → first + step * k < length before → get_or now (first + step * k) (pos 0) ≡ g k
  pub miss : (t : ℕ) → ((k : ℕ) → k < n → t ≡ first + step * k → ⊥) → get_or now t (pos 0) ≡ get_or before t (pos 0)

-- the number of a sample's audio block in its half, of nine a sequence
abbrev pub order_of : ℕ → ℕ → ℕ
order_of s t = 9 * rank_of s t + audio_of s t

-- the samples of audio blocks `from` to `to` - 1 are those that f says, and the others as they were
pub record Between (s from to : ℕ) (f : ℕ → ℤ) (before now : List ℤ) : Type 0 where
  pub size : length now ≡ length before
  pub taken : (t : ℕ) → t < length before → from ≤ order_of s t → order_of s t < to → get_or now t (pos 0) ≡ f t
  pub others : (t : ℕ) → (order_of s t < from) ⊎ (to ≤ order_of s t) → get_or now t (pos 0) ≡ get_or before t (pos 0)

-- ---- the audio blocks of a sequence of so many bytes that are taken into a list of so many entries: none where they do not fit the system

unfoldable pub blocks_taken : System → ℕ → ℕ → ℕ
blocks_taken y size room = pick (eqb size 12000 && leb room (positions_of y)) 9 0
