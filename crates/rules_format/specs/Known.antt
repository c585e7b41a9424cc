-- The known places of document 01 that it marks for proof, as one table under one test; those of macroblocks stand with the picture's rules.
use Rattle.std.specs.Prelude.{Bool, true, false, ◌&&◌, List, [], ◌∷◌, ℕ, eqb}
use Rattle.paper.specs.declared.System.{System}
use Rattle.paper.specs.declared.System.TheVariants.{I60, I50}
use Rattle.paper.specs.declared.Section.{Section}
use Rattle.paper.specs.declared.Section.TheVariants.{Audio, Video}
use Rattle.rules_format.specs.Places.{code_of, place, entry_at}
use Rattle.rules_format.specs.Ids.{id_at, id_bytes}
use Rattle.rules_format.specs.Systems.{half_of}
use Rattle.rules_format.specs.Sound.{sequence_of, audio_of, byte_of}
use Rattle.rules_format.specs.Faults.{names}

-- the ID of place p of sequence q of DIF channel h; the block that stands at a place; the sequence, audio block and byte of sample t of audio channel c
pub data Known : Type 0 where
  id : (h q p : ℕ) → List ℕ → Known
  stands : (p : ℕ) → Section → ℕ → Known
  sample : System → (c t : ℕ) → (q a i : ℕ) → Known

-- the same numbers
unfoldable pub same : List ℕ → List ℕ → Bool
same [] [] = true
same [] (y ∷ ys) = false
same (x ∷ xs) [] = false
same (x ∷ xs) (y ∷ ys) = eqb x y && same xs ys

-- an ID is written so and names its place; a block stands at its place; a sample lies where the rule says
unfoldable pub agrees : Known → Bool
agrees (id h q p bytes) = same (id_bytes (id_at h q (place p))) bytes && names bytes h q p
agrees (stands p section number) = eqb (code_of (entry_at (place p)).section) (code_of section) && eqb (entry_at (place p)).number.0 number
agrees (sample y c t q a i) = eqb (sequence_of (half_of y) c t) q && (eqb (audio_of (half_of y) t) a && eqb (byte_of (half_of y) t) i)

unfoldable pub all : List Known → Bool
all [] = true
all (k ∷ ks) = agrees k && all ks

-- in document 01's order
unfoldable pub table : List Known
table =
    id 0 0 0 (0x1F ∷ 0x07 ∷ 0x00 ∷ [])
    ∷ id 3 9 149 (0x9F ∷ 0x9B ∷ 0x86 ∷ [])
    ∷ stands 6 Audio 0
    ∷ stands 22 Audio 1
    ∷ stands 149 Video 134
    ∷ sample I60 1 0 0 0 8
    ∷ sample I60 1 2 4 6 8
    ∷ sample I60 1 15 0 1 8
    ∷ sample I60 1 44 3 8 8
    ∷ sample I60 1 45 0 0 10
    ∷ sample I60 1 1619 3 8 78
    ∷ sample I50 1 5 5 6 8
    ∷ []
