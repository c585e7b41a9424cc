-- The customer's request "A new commentary channel in a finished frame": what the call leaves of a frame that it takes. k is a system's number, f the frame
-- before and g after; c is an audio channel, 1 to 8, samples are its new samples, t is a position of it.
use Rattle.std.specs.Prelude.{◌≡◌, List, ◌≢◌, ℕ, ◌+◌, ◌-◌, ◌*◌, ◌/◌, ◌%◌, ◌≤◌, ◌<◌, ℤ, pos, length, get_or, take, drop, Some}
use Rattle.paper.specs.declared.AudioAnswer.{AudioAnswer}
use Rattle.paper.specs.Paper.{sequences, positions, macroblocks, bytes_at, sound_start, sound_word, sample_by, word_by, back, count_said, slot_place, carried}
use Rattle.promises.specs.Contents.{Contents}
use Rattle.promises.specs.Demand2.{given, AudioOut}
use Rattle.promises.specs.Refusals.{count_stored}

-- ---- the bytes

-- byte i is none of the two of a sample below the count
abbrev pub Elsewhere : ℕ → ℕ → ℕ → ℕ → Type 0
Elsewhere n c count i = (t : ℕ) → t < count → (i ≢ sound_start n c t) × (i ≢ sound_start n c t + 1)

pub record Exchanged (k : ℕ) (f : List ℕ) (c : ℕ) (samples : List ℤ) (g : List ℕ) : Type 0 where
  -- "the stored count"
  pub count : length samples ≡ count_stored k f c
  pub size : length g ≡ length f
  -- "they hold the new samples as the writer codes them", high byte first
  pub high : (t : ℕ) → t < length samples → get_or g (sound_start (sequences k) c t) 0 ≡ word_by (get_or samples t (pos 0)) / 256
  pub low : (t : ℕ) → t < length samples → get_or g (sound_start (sequences k) c t + 1) 0 ≡ word_by (get_or samples t (pos 0)) % 256
  -- "Only the bytes of that channel's samples below the count may change": none of another channel, and none of the tail
  pub other : (i : ℕ) → Elsewhere (sequences k) c (count_stored k f c) i → get_or g i 0 ≡ get_or f i 0

-- ---- the channel reads back: an audio read of g answers o and leaves `after` of the list `before`

-- "a level of -32,768 comes back as -32,767"
abbrev pub HeardAgain : List ℤ → List ℤ → AudioAnswer → List ℤ → Type 0
HeardAgain samples before o after = AudioOut (length samples) (λ (t : ℕ). back (get_or samples t (pos 0))) before o after

-- ---- salvage of f leaves `before`, of g `after`: the new samples, and every other position as it was

pub record SalvagedAgain (k c : ℕ) (samples before after : List ℤ) : Type 0 where
  pub sample : (t : ℕ) → t < length samples → get_or after ((c - 1) * positions k + t) (pos 0) ≡ back (get_or samples t (pos 0))
  pub others : (d t : ℕ) → 0 < d → d < 9 → t < positions k → (d ≡ c → length samples ≤ t)
      → get_or after ((d - 1) * positions k + t) (pos 0) ≡ get_or before ((d - 1) * positions k + t) (pos 0)
  pub size : length after ≡ 8 * positions k

-- ---- "For a frame in our writer's form the result is what the writer would have made from the changed contents."

-- the samples of a frame are stored in bytes, below 256
pub record SoundBytes (k : ℕ) (f : List ℕ) : Type 0 where
  pub high : (c t : ℕ) → 0 < c → c < 9 → t < count_said (sequences k) f 0 0 → get_or f (sound_start (sequences k) c t) 0 < 256
  pub low : (c t : ℕ) → 0 < c → c < 9 → t < count_said (sequences k) f 0 0 → get_or f (sound_start (sequences k) c t + 1) 0 < 256

-- the contents of a frame, by its bytes
pub record FrameHolds (k : ℕ) (f : List ℕ) (l : Contents) : Type 0 where
  pub count : l.count ≡ count_said (sequences k) f 0 0
  pub sounds : length l.sound ≡ 8 * l.count
  pub sample : (c t : ℕ) → 0 < c → c < 9 → t < l.count → given l c t ≡ sample_by (sound_word (sequences k) f c t)
  pub pictures : length l.macroblocks ≡ 77 * macroblocks k
  pub macroblock : (h q g m b : ℕ) → h < 4 → q < sequences k → g < 27 → m < 5 → carried k h q g m ≡ Some b
      → take 77 (drop (77 * b) l.macroblocks) ≡ bytes_at (sequences k) f h q (slot_place (5 * g + m)) 3 77
  pub time : l.time_code ≡ bytes_at (sequences k) f 0 0 1 31 4
  pub group : l.binary_group ≡ bytes_at (sequences k) f 0 0 1 39 4

-- "the changed contents": l' is l with the samples of audio channel c exchanged
pub record Changed (l : Contents) (c : ℕ) (samples : List ℤ) (l' : Contents) : Type 0 where
  pub count : l'.count ≡ l.count
  pub sounds : length l'.sound ≡ length l.sound
  pub sample : (t : ℕ) → t < l.count → given l' c t ≡ get_or samples t (pos 0)
  pub others : (d t : ℕ) → 0 < d → d < 9 → d ≢ c → t < l.count → given l' d t ≡ given l d t
  pub macroblocks : l'.macroblocks ≡ l.macroblocks
  pub time : l'.time_code ≡ l.time_code
  pub group : l'.binary_group ≡ l.binary_group
