-- The 150 places of a sequence (document 01, "The four systems").
use Rattle.std.specs.Prelude.{List, ◌∷◌, ℕ, ◌+◌, ◌*◌, ◌/◌, ◌%◌, eqb, ltb, get_or, Option, Some, None}
use Rattle.base.specs.Pick.{pick}
use Rattle.base.specs.Run.{run, tab}
use Rattle.paper.specs.declared.Section.{Section}
use Rattle.paper.specs.declared.Section.TheVariants.{Header, Subcode, Vaux, Audio, Video}
use Rattle.paper.specs.declared.BlockNumber.{BlockNumber}
use Rattle.paper.specs.declared.Place.{Place}
use Rattle.paper.specs.declared.Entry.{Entry}

-- ---- sections

-- the section's number in an ID: 0 header, 1 subcode, 2 VAUX, 3 audio, 4 video
abbrev pub code_of : Section → ℕ
code_of Header = 0
code_of Subcode = 1
code_of Vaux = 2
code_of Audio = 3
code_of Video = 4

-- the section of a number below 5 (from 5 on the last stands in)
unfoldable pub section_of : ℕ → Section
section_of k = pick (eqb k 0) Header (pick (eqb k 1) Subcode (pick (eqb k 2) Vaux (pick (eqb k 3) Audio Video)))

-- how many blocks it has in a sequence
abbrev pub blocks_of : Section → ℕ
blocks_of Header = 1
blocks_of Subcode = 2
blocks_of Vaux = 3
blocks_of Audio = 9
blocks_of Video = 135

-- ---- the place rule

abbrev pub place : ℕ → Place
place p = record { 0 = p }

-- the block of a section with a number
abbrev pub block : Section → ℕ → Entry
block section k = record { section = section; number = record { 0 = k } }

-- "Places 0 to 5 are H0, SC0, SC1, VA0, VA1, VA2. Then for a = 0 to 8: place 6+16a is A(a), the next 15 are V(15a) to V(15a+14)."
unfoldable pub places : List Entry
places =
    block Header 0 ∷ block Subcode 0 ∷ block Subcode 1 ∷ block Vaux 0 ∷ block Vaux 1 ∷ block Vaux 2
    ∷ run (λ (a : ℕ). block Audio a ∷ tab (λ (i : ℕ). block Video (15 * a + i)) 15) 9

-- what stands at a place; past the 150 there is none, and H0 stands in
unfoldable pub entry_at : Place → Entry
entry_at p = get_or places p.0 (block Header 0)

-- back: the place of a section's block
abbrev pub place_in : Section → ℕ → ℕ
place_in Header k = k
place_in Subcode k = 1 + k
place_in Vaux k = 3 + k
place_in Audio a = 6 + 16 * a
place_in Video v = 7 + 16 * (v / 15) + v % 15

-- of a block number: past the section's blocks there is none, and 150 stands in, which is no place
unfoldable pub place_for : Section → BlockNumber → Place
place_for s k = pick (ltb k.0 (blocks_of s)) (place (place_in s k.0)) (place 150)

unfoldable pub place_of : Entry → Option Place
place_of e = pick (ltb e.number.0 (blocks_of e.section)) (Some (place (place_in e.section e.number.0))) None
