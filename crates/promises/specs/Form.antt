-- The form of a written frame: every byte that the writer decides, of the frame's own blocks, in document 01's numbers and without the writer.
-- What is not said here is carried: the time code and binary group of DIF channel 0, sequence 0, the count of its first AS, the samples
-- below the count, the macroblocks.
use Rattle.std.specs.Prelude.{◌≡◌, List, [], ◌∷◌, ℕ, ◌+◌, ◌*◌, ◌/◌, ◌%◌, ◌≤◌, ◌<◌, length, replicate, None}
use Rattle.paper.specs.Paper.{sequences, positions, rate, byte_at, bytes_at, section_at, number_at, channel_bits, sound_word, count_said, vaux_place, vaux_byte}
use Rattle.paper.specs.Paper.{slot_place, carried}
use Rattle.paper.specs.Bytes.{OwnCount, header_form, ssyb_form, vaux_form, aaux_form}

-- m bytes of a block of system k, from its byte i on
abbrev pub cut : ℕ → List ℕ → ℕ → ℕ → ℕ → ℕ → ℕ → List ℕ
cut k f h q p i m = bytes_at (sequences k) f h q p i m

-- "Byte 0: section in bits 7-5 .. Byte 1: Dseq in bits 7-4, FSC bit 3, FSP bit 2. Byte 2: DBN. .. Other bits are written 1"
abbrev pub id_form : ℕ → ℕ → ℕ → List ℕ
id_form h q p = (32 * section_at p + 31) ∷ (16 * q + 4 * channel_bits h + 3) ∷ number_at p ∷ []

-- the time code and binary group of DIF channel 0, sequence 0: in SC0, SSYB 3 and 4; and the byte of its AF size, in A3
abbrev pub time_bytes : ℕ → List ℕ → List ℕ
time_bytes k f = cut k f 0 0 1 31 4

abbrev pub group_bytes : ℕ → List ℕ → List ℕ
group_bytes k f = cut k f 0 0 1 39 4

abbrev pub size_byte : ℕ → List ℕ → ℕ
size_byte k f = byte_at (sequences k) f 0 0 54 4

pub record HasForm (k : ℕ) (f : List ℕ) : Type 0 where
  pub size : length f ≡ 48000 * sequences k
  -- every block names its place, and the other bits of its ID are ones
  pub ids : (h q p : ℕ) → h < 4 → q < sequences k → p < 150 → cut k f h q p 0 3 ≡ id_form h q p
  pub headers : (h q : ℕ) → h < 4 → q < sequences k → cut k f h q 0 3 77 ≡ header_form k
  -- "SSYB 0-5 in SC0, 6-11 in SC1, eight bytes each from byte 3", then ones
  pub ssybs : (h q j : ℕ) → h < 4 → q < sequences k → j < 12 → cut k f h q (1 + j / 6) (3 + 8 * (j % 6)) 8 ≡ ssyb_form k (time_bytes k f) (group_bytes k f) q j
  pub subcode_ones : (h q j : ℕ) → h < 4 → q < sequences k → j < 2 → cut k f h q (1 + j) 51 29 ≡ replicate 29 0xFF
  -- "At 50 Hz bit 6 of PC1 is arbitrary: the writer takes only 1"
  pub bit_6 : rate k ≡ 1 → byte_at (sequences k) f 0 0 1 31 / 64 % 2 ≡ 1
  -- "45 packs, 15 to a block, five bytes each from byte 3", then ones
  pub vaux : (h q j : ℕ) → h < 4 → q < sequences k → j < 45 → cut k f h q (vaux_place j) (vaux_byte j) 5 ≡ vaux_form k q j
  pub vaux_ones : (h q j : ℕ) → h < 4 → q < sequences k → j < 3 → cut k f h q (3 + j) 78 2 ≡ replicate 2 0xFF
  -- "Bytes 3-7 of A0-A8 are packs 0-8."
  pub aaux : (h q a : ℕ) → h < 4 → q < sequences k → a < 9 → cut k f h q (6 + 16 * a) 3 5 ≡ aaux_form k (size_byte k f) q a
  -- LF 0, the next bit 1, and one of the system's own counts
  pub lf : size_byte k f / 64 ≡ 1
  pub own : OwnCount k (count_said (sequences k) f 0 0)
  -- "Positions from the count on are written 0"
  pub tails : (c t : ℕ) → 0 < c → c < 9 → count_said (sequences k) f 0 0 ≤ t → t < positions k → sound_word (sequences k) f c t ≡ 0
  -- "Remaining slots .. carry none; payload FFh"
  pub empty : (h q g m : ℕ) → h < 4 → q < sequences k → g < 27 → m < 5 → carried k h q g m ≡ None
      → cut k f h q (slot_place (5 * g + m)) 3 77 ≡ replicate 77 0xFF
