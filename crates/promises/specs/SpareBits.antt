-- The customer's request "What did the spare bits say?": an ID is told back from its answer, and no other call notices. v are the values of an answer;
-- j is a block of a frame, of a sequence or of a view, and b a byte of it.
use Rattle.std.specs.Prelude.{◌≡◌, List, [], ◌∷◌, ℕ, ◌+◌, ◌*◌, ◌/◌, ◌%◌, ◌≤◌, ◌<◌, length, get_or}
use Rattle.paper.specs.declared.IdValues.{IdValues}
use Rattle.paper.specs.Paper.{channel_bits}

-- ---- "The ID answer must carry the four arbitrary bits and three reserved bits as found, beside what it names."

-- three bytes with a section, "5-7 reserved"
pub record WithSection (id : List ℕ) : Type 0 where
  pub size : length id ≡ 3
  pub bytes : (i : ℕ) → i < 3 → get_or id i 0 < 256
  pub section : get_or id 0 0 / 32 < 5

-- seven values that an answer can have
pub record Answerable (v : IdValues) : Type 0 where
  pub number : v.number ≡ 0
  pub section : v.section < 5
  pub channel : v.channel < 4
  pub dseq : v.dseq < 16
  pub dbn : v.dbn < 256
  pub arbitrary : v.arbitrary < 16
  pub reserved : v.reserved < 8

-- the three bytes by such values, all 24 bits
unfoldable pub told : IdValues → List ℕ
told v =
    (32 * v.section + 16 * (v.reserved / 4) + v.arbitrary)
    ∷ (16 * v.dseq + 4 * channel_bits v.channel + v.reserved % 4)
    ∷ v.dbn
    ∷ []

-- ---- "Frame check, block view, survey and salvage all stand on that answer and keep their own results."

-- f and g are m blocks each that differ at most in the spare bits of their IDs: bits 4-0 of byte 0 and bits 1-0 of byte 1
pub record SameButSpare (m : ℕ) (f g : List ℕ) : Type 0 where
  pub size : length g ≡ length f
  pub first : (j : ℕ) → j < m → get_or g (j * 80) 0 / 32 ≡ get_or f (j * 80) 0 / 32
  pub second : (j : ℕ) → j < m → get_or g (j * 80 + 1) 0 / 4 ≡ get_or f (j * 80 + 1) 0 / 4
  pub others : (j b : ℕ) → j < m → 2 ≤ b → b < 80 → get_or g (j * 80 + b) 0 ≡ get_or f (j * 80 + b) 0
