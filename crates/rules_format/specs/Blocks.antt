-- Blocks and sequences as parts of a frame (document 01, "The four systems").
use Rattle.std.specs.Prelude.{◌≡◌, List, ℕ, ◌+◌, ◌*◌, ◌<◌, eqb, take, drop}
use Rattle.base.specs.Pick.{pick}
use Rattle.paper.specs.declared.System.{System}
use Rattle.paper.specs.declared.Part.{Part}
use Rattle.rules_format.specs.Systems.{sequences_of}

-- "Block start: ((n·h + q)·150 + place)·80."
abbrev pub start_of : System → ℕ → ℕ → ℕ → ℕ
start_of y h q p = ((sequences_of y * h + q) * 150 + p) * 80

-- the 80 bytes of the block at place p of sequence q of DIF channel h
unfoldable pub block_at : System → List ℕ → ℕ → ℕ → ℕ → List ℕ
block_at y frame h q p = take 80 (drop (start_of y h q p) frame)

-- the 12,000 bytes of sequence q of DIF channel h
unfoldable pub sequence_at : System → List ℕ → ℕ → ℕ → List ℕ
sequence_at y frame h q = take 12000 (drop ((sequences_of y * h + q) * 12000) frame)

-- the block at place p of a sequence
unfoldable pub block_in : List ℕ → ℕ → List ℕ
block_in sequence p = take 80 (drop (p * 80) sequence)

-- byte k of a frame is byte i of the block at place p of sequence q of DIF channel h
pub record Holds (y : System) (k h q p i : ℕ) : Type 0 where
  pub channel : h < 4
  pub sequence : q < sequences_of y
  pub place : p < 150
  pub offset : i < 80
  pub is : k ≡ start_of y h q p + i

-- ---- a part of a frame as an answer: a number, the first byte, the length

-- "A refusal answers its number, otherwise zeros and an empty part"
abbrev pub no_part : ℕ → Part
no_part number = record { number = number; start = 0; length = 0 }

unfoldable pub part_at : ℕ → ℕ → ℕ → Part
part_at number start size = pick (eqb number 0) (record { number = 0; start = start; length = size }) (no_part number)

-- the bytes of the frame that it says
abbrev pub bytes_of : List ℕ → Part → List ℕ
bytes_of frame r = take r.length (drop r.start frame)
