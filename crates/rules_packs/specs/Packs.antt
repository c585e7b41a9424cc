-- Packs of five bytes (document 01, "Inside the blocks").
use Rattle.std.specs.Prelude.{List, [], ◌∷◌, ℕ, ◌+◌, eqb, get_or}
use Rattle.base.specs.Pick.{pick}
use Rattle.paper.specs.declared.Pack.{Pack}

-- the pack that stands in a block from byte `at` on
abbrev pub pack_in : List ℕ → ℕ → Pack
pack_in block at = record {
  pc0 = get_or block at 0;
  pc1 = get_or block (at + 1) 0;
  pc2 = get_or block (at + 2) 0;
  pc3 = get_or block (at + 3) 0;
  pc4 = get_or block (at + 4) 0;
}

-- its five bytes
abbrev pub pack_bytes : Pack → List ℕ
pack_bytes p = p.pc0 ∷ p.pc1 ∷ p.pc2 ∷ p.pc3 ∷ p.pc4 ∷ []

-- those behind its header
abbrev pub four_bytes : Pack → List ℕ
four_bytes p = p.pc1 ∷ p.pc2 ∷ p.pc3 ∷ p.pc4 ∷ []

-- a header and four bytes
abbrev pub pack_of : ℕ → List ℕ → Pack
pack_of header bytes = record { pc0 = header; pc1 = get_or bytes 0 0; pc2 = get_or bytes 1 0; pc3 = get_or bytes 2 0; pc4 = get_or bytes 3 0 }

-- "Unlisted bytes and bits are written as ones and not judged."
abbrev pub ones_after : ℕ → Pack
ones_after header = record { pc0 = header; pc1 = 0xFF; pc2 = 0xFF; pc3 = 0xFF; pc4 = 0xFF }

abbrev pub no_pack : Pack
no_pack = ones_after 0xFF

-- pack k of a row: the source pack is number `at`, its control pack "follows", and no other pack stands there
unfoldable pub pair_at : ℕ → Pack → Pack → ℕ → Pack
pair_at at source control k = pick (eqb k at) source (pick (eqb k (at + 1)) control no_pack)
