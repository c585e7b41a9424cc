-- The customer's third demand, clause by clause under his own words: "Take a frame our writer made", f, of what was lent to it, l, "and overwrite
-- any set of its 80-byte blocks with anything": g is any frame of its length. k is a system's number, n its sequences; c is an audio channel,
-- 1 to 8, and t a position of it.
use Rattle.std.specs.Prelude.{◌≡◌, List, ◌++◌, ◌≢◌, ℕ, ◌+◌, ◌-◌, ◌*◌, ◌/◌, ◌<◌, min, ltb, ℤ, pos, length, get_or, take, drop}
use Rattle.base.specs.Pick.{pick}
use Rattle.paper.specs.declared.Survey.{Survey}
use Rattle.promises.specs.Contents.{Contents}
use Rattle.paper.specs.Paper.{sequences, positions, stream_fault, records, sound_index, sound_word, sample_by, back}
use Rattle.promises.specs.Demand2.{given}

-- a position as it was stored: the sample given, and silence from the count on
abbrev pub stored : Contents → ℕ → ℕ → ℤ
stored l c t = pick (ltb t l.count) (back (given l c t)) (pos 0)

-- the 80 bytes of a position's block, and its fault, 0 where it names its place
abbrev pub block_of : ℕ → List ℕ → ℕ → ℕ → List ℕ
block_of n f c t = take 80 (drop (sound_index n c t * 80) f)

abbrev pub fault_for : ℕ → List ℕ → ℕ → ℕ → ℕ
fault_for n f c t = stream_fault n f (sound_index n c t) (sound_index n c t)

-- x is what salvage returns of position t of audio channel c, by the bytes of g
pub record PositionOut (n : ℕ) (g : List ℕ) (c t : ℕ) (x : ℤ) : Type 0 where
  -- "A sample whose block no longer names its own place comes back as lost."
  pub unnamed : fault_for n g c t ≢ 0 → x ≡ pos 32768
  -- "One whose block was overwritten but still names its place is read from the bytes now there."
  pub renamed : fault_for n g c t ≡ 0 → x ≡ sample_by (sound_word n g c t)

-- and by the frame f that was written of l
pub record SampleSalvaged (n : ℕ) (l : Contents) (f g : List ℕ) (c t : ℕ) (x : ℤ) : Type 0 where
  -- "Told the same system, salvage returns each audio sample from an untouched block exactly as it was stored."
  pub untouched : block_of n g c t ≡ block_of n f c t → x ≡ stored l c t
  pub now_there : PositionOut n g c t x

-- a survey of m blocks, the first of which is block `first` of the stream: its answer r, and the fault list before and after
pub record Listed (n : ℕ) (bytes : List ℕ) (first m : ℕ) (list : List ℕ) (r : Survey) (list' : List ℕ) : Type 0 where
  -- "The fault list holds the blocks that do not name their place, from the first in stream order on, as many as it has room for, and nothing else"
  pub listed : list' ≡ take (4 * r.kept) (records n bytes first m) ++ drop (4 * r.kept) list
  pub kept : r.kept ≡ min (length list / 4) r.total
  -- "its total is the number of all such blocks"
  pub total : 4 * r.total ≡ length (records n bytes first m)

-- the samples that salvage returns of any frame g: every position of every audio channel
pub record SalvageOut (k : ℕ) (g : List ℕ) (samples : List ℤ) : Type 0 where
  pub size : length samples ≡ 8 * positions k
  pub position : (c t : ℕ) → 0 < c → c < 9 → t < positions k → PositionOut (sequences k) g c t (get_or samples ((c - 1) * positions k + t) (pos 0))

pub record Salvages (k : ℕ) (l : Contents) (f g list : List ℕ) (r : Survey) (samples : List ℤ) (list' : List ℕ) : Type 0 where
  pub number : r.number ≡ 0
  pub size : length samples ≡ 8 * positions k
  pub sample : (c t : ℕ) → 0 < c → c < 9 → t < positions k → SampleSalvaged (sequences k) l f g c t (get_or samples ((c - 1) * positions k + t) (pos 0))
  pub faults : Listed (sequences k) g 0 (600 * sequences k) list r list'
