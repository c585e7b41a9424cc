-- Samples: in a lent slice a number, in a block a word (document 01, "Sound").
use Rattle.std.specs.Prelude.{Bool, true, ◌&&◌, List, [], ◌∷◌, ℕ, ◌+◌, ◌*◌, ◌/◌, ◌%◌, eqb, ℤ, pos, negsuc, get_or, Option, Some, None}
use Rattle.std.specs.Int.Signed.{le_z}
use Rattle.std.specs.Int.{w16}
use Rattle.std.proofs.Common.{to_z, of_z}
use Rattle.base.specs.Pick.{pick}
use Rattle.paper.specs.declared.Sample.{Sample}
use Rattle.paper.specs.declared.Sample.TheVariants.{Level, Lost}

-- ---- numbers: "In lent slices of signed 32-bit numbers lost is 32,768."

abbrev pub lost : ℤ
lost = pos 32768

abbrev pub number_of : Sample → ℤ
number_of (Level z) = z
number_of Lost = lost

-- "a sample outside -32,768 to 32,768" is none
unfoldable pub in_range : ℤ → Bool
in_range z = le_z (negsuc 32767) z && le_z z lost

unfoldable pub sample_in : ℤ → Option Sample
sample_in z = pick (in_range z) (Some (pick (le_z lost z) Lost (Level z))) None

unfoldable pub all_in_range : List ℤ → Bool
all_in_range [] = true
all_in_range (x ∷ xs) = in_range x && all_in_range xs

-- ---- words: "Word 8000h is lost; a level of -32,768 is written 8001h."

-- any other word is a level in two's complement
unfoldable pub sample_of : ℕ → Sample
sample_of w = pick (eqb w 0x8000) Lost (Level (to_z w16 w))

unfoldable pub word_of : Sample → ℕ
word_of (Level z) = pick (eqb (of_z w16 z) 0x8000) 0x8001 (of_z w16 z)
word_of Lost = 0x8000

-- the word of a number; no sample has none, and silence stands in
unfoldable pub word_in : Option Sample → ℕ
word_in (Some s) = word_of s
word_in None = 0

abbrev pub word_for : ℤ → ℕ
word_for z = word_in (sample_in z)

-- "high byte first"
abbrev pub bytes_of : ℕ → List ℕ
bytes_of w = w / 256 ∷ w % 256 ∷ []

abbrev pub word_at : List ℕ → ℕ → ℕ
word_at block i = get_or block i 0 * 256 + get_or block (i + 1) 0

-- ---- what a number in range comes back as: itself, but -32,767 for -32,768

unfoldable pub back_of : ℤ → ℤ
back_of z = pick (le_z z (negsuc 32767)) (negsuc 32766) z
