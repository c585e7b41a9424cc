-- The fault of a block where it stands (document 01, "Refusal numbers and their order").
use Rattle.std.specs.Prelude.{◌≡◌, List, [], ◌∷◌, Bool, not, ℕ, eqb}
use Rattle.base.specs.Calls.{first_of, ◌when◌}
use Rattle.paper.specs.declared.Entry.{Entry}
use Rattle.paper.specs.declared.BlockId.{BlockId}
use Rattle.paper.specs.declared.Spare.{Spare}
use Rattle.paper.specs.declared.IdAnswer.{IdAnswer}
use Rattle.paper.specs.declared.IdAnswer.TheVariants.{Named, Reserved, WrongLength}
use Rattle.rules_format.specs.Places.{code_of, place, entry_at}
use Rattle.rules_format.specs.Ids.{block_answer, id_values}

-- a named block where entry e of sequence q of DIF channel h stands; 12, 13, 14, 15: "section, channel, Dseq, DBN not the place's"
unfoldable pub misnamed : BlockId → ℕ → ℕ → Entry → ℕ
misnamed b h q e = first_of (
    12 when not (eqb (code_of b.section) (code_of e.section))
    ∷ 13 when not (eqb b.channel h)
    ∷ 14 when not (eqb b.dseq q)
    ∷ 15 when not (eqb b.dbn.0 e.number.0)
    ∷ [])

-- "Frame check, block view, survey and salvage .. keep their own results": the spare bits are not asked
unfoldable pub fault_of : IdAnswer → ℕ → ℕ → Entry → ℕ
fault_of (Named b s) h q e = misnamed b h q e
fault_of Reserved h q e = (id_values Reserved).number
fault_of WrongLength h q e = (id_values WrongLength).number

-- the fault of a block at place p of sequence q of DIF channel h, by the answer to its ID; 0 for none
unfoldable pub fault_at : List ℕ → ℕ → ℕ → ℕ → ℕ
fault_at block h q p = fault_of (block_answer block) h q (entry_at (place p))

-- "A block names its place when section, channel, Dseq and DBN all do."
pub record NamesPlace (block : List ℕ) (h q p : ℕ) : Type 0 where
  pub id : BlockId
  pub spare : Spare
  pub named : block_answer block ≡ Named id spare
  pub section : id.section ≡ (entry_at (place p)).section
  pub channel : id.channel ≡ h
  pub dseq : id.dseq ≡ q
  pub dbn : id.dbn ≡ (entry_at (place p)).number

abbrev pub names : List ℕ → ℕ → ℕ → ℕ → Bool
names block h q p = eqb (fault_at block h q p) 0
