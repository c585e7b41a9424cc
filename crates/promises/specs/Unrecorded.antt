-- The customer's request "Unrecorded channels come back as faults": what a mark does to a frame that is read, and what it does not touch. k is a system's
-- number, f and g are frames, j is a block of the stream and b a byte of it; c is an audio channel, 1 to 8, and r the rank of a sequence in its half.
use Rattle.std.specs.Prelude.{◌≡◌, Bool, true, List, ◌≢◌, ℕ, ◌+◌, ◌*◌, ◌/◌, ◌%◌, ◌≤◌, ◌<◌, ℤ, pos, length, get_or}
use Rattle.paper.specs.declared.AudioAnswer.{AudioAnswer}
use Rattle.promises.specs.Demand2.{AudioOut}
use Rattle.paper.specs.Paper.{sequences, start, section_at, sound_channel, sound_first, as_place}

-- ---- the mark

-- where the mode stands in the AS of rank r: PC2, byte 5 of its block
abbrev pub mode_byte : ℕ → ℕ → ℕ → ℕ
mode_byte n c r = start n (sound_channel c) (sound_first n c + r) (as_place (sound_first n c + r)) + 5

-- g is f with AS packs of audio channel c marked "with audio mode 1111", those of the ranks that `which` has: bits 3-0 of these bytes; no other bit differs
pub record Marks (k : ℕ) (f : List ℕ) (c : ℕ) (which : ℕ → Bool) (g : List ℕ) : Type 0 where
  pub size : length g ≡ length f
  pub mark : (r : ℕ) → r < sequences k / 2 → which r ≡ true
      → get_or g (mode_byte (sequences k) c r) 0 ≡ get_or f (mode_byte (sequences k) c r) 0 / 16 * 16 + 0xF
  pub other : (i : ℕ) → ((r : ℕ) → r < sequences k / 2 → which r ≡ true → i ≢ mode_byte (sequences k) c r) → get_or g i 0 ≡ get_or f i 0

-- the whole channel
abbrev pub every : ℕ → Bool
every r = true

-- "An audio read of such a channel succeeds, gives the stored count and hands out every sample up to it as lost.": unmarked it answers a; marked it
-- answers o and leaves samples' in samples
abbrev pub ComesBackLost : AudioAnswer → List ℤ → AudioAnswer → List ℤ → Type 0
ComesBackLost a samples o samples' = AudioOut a.count (λ t. pos 32768) samples o samples'

-- ---- what it does not touch

-- f and g differ at most behind the IDs of audio blocks, which are section 3
pub record SameButAudio (k : ℕ) (f g : List ℕ) : Type 0 where
  pub size : length g ≡ length f
  pub ids : (j b : ℕ) → j < 600 * sequences k → b < 3 → get_or g (j * 80 + b) 0 ≡ get_or f (j * 80 + b) 0
  pub others : (j b : ℕ) → j < 600 * sequences k → b < 80 → section_at (j % 150) ≢ 3 → get_or g (j * 80 + b) 0 ≡ get_or f (j * 80 + b) 0

-- and there in AAUX alone: "Bytes 3-7 of A0-A8 are packs 0-8."
pub record SameButAaux (k : ℕ) (f g : List ℕ) : Type 0 where
  pub blocks : SameButAudio k f g
  pub words : (j b : ℕ) → j < 600 * sequences k → 8 ≤ b → b < 80 → get_or g (j * 80 + b) 0 ≡ get_or f (j * 80 + b) 0
