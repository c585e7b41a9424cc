-- What meets a statement is what our calls answer: they meet it, and it leaves one answer (`promises`). Assumes nothing.
use mathlib.Core.Path.{◌≡◌, sym, ◌∙◌}
use mathlib.Core.List.{List}
use Prim.Native.Nat.{ℕ, ◌<◌}
use native.Mathlib.Omega.{arith}
use lib.IntN.{ℤ}
use Rattle.paper.specs.declared.Place.{Place}
use Rattle.paper.specs.declared.IdAnswer.{IdAnswer}
use Rattle.paper.specs.declared.IdValues.{IdValues}
use Rattle.paper.specs.declared.Part.{Part}
use Rattle.rules_surveys.specs.ReadId.{IdRead, IdSaid}
use Rattle.rules_surveys.specs.View.{ViewNumbered, Viewed, ViewLies}
use Rattle.rules_reads.specs.Macroblock.{macroblock_number, MacroblockLies}
use Rattle.promises.specs.Demand2.{IdOut, ViewOut, MacroblockOut, Strict, ReadOut, GoesThrough}
use Rattle.rules_reads.specs.Strict.{StrictlyRead}
use Rattle.rules_surveys.proofs.Calls.{view_lies_number}
use Rattle.rules_reads.proofs.Macroblock.{macroblock_1, macroblock_zero, macroblock_lies_number}
use Rattle.rules_format.proofs.Paper.{columns, by_system}
use Rattle.rules_surveys.proofs.ReadingOut.{id_out, view_out}
use Rattle.rules_reads.proofs.ReadingOut.{macroblock_out, read_out}
use Rattle.promises.proofs.One.{ids_one, views_one, macroblocks_one, reads_one}
use Rattle.paper.specs.Paper.{macroblocks}

pub ids_decided : {id : List ℕ} {o o' : IdAnswer} {v v' : IdValues} → IdRead id o → IdSaid id v → IdOut id o' v' → (o' ≡ o) × (v' ≡ v)
ids_decided read said m = ids_one m (id_out read said)

pub views_decided : {k : ℕ} {f : List ℕ} {h q : ℕ} {p : Place} {part part' : List ℕ} {r r' : Part} → ViewNumbered k f h q p 0 → Viewed k f h q p part
    → ViewLies k f h q p r → r'.number ≡ 0 → ViewOut k f h q p 0 part' r' → (part' ≡ part) × (r' ≡ r)
views_decided {k} {f} {h} {q} {p} numbered viewed lies z m =
    views_one z (view_lies_number k f h q p lies ∙ sym numbered.answer) m (view_out numbered viewed lies)

-- a macroblock that is read is one of the system's
pub read_below : (k : ℕ) (f : List ℕ) (b : ℕ) → macroblock_number k f b ≡ 0 → b < macroblocks k
read_below k f b z =
    by_system k
    (λ none. absurd (omega (arith, z, macroblock_1 k f b none)))
    (λ y known. omega (arith, (macroblock_zero k f b y known z).1, (columns k y known).macroblocks_is))

pub macroblocks_decided : {k : ℕ} {f : List ℕ} {b : ℕ} {r r' : Part} → MacroblockLies k f b r → r.number ≡ 0 → r'.number ≡ 0 → MacroblockOut k f b r' → r' ≡ r
macroblocks_decided {k} {f} {b} lies z z' m = macroblocks_one (read_below k f b (sym (macroblock_lies_number k f b lies) ∙ z)) z' z m (macroblock_out lies)

pub reads_decided : {k : ℕ} {f : List ℕ} {c : ℕ} {samples : List ℤ} {b : ℕ} {o o' : Strict} → StrictlyRead k f c samples b o → GoesThrough o → GoesThrough o'
    → ReadOut k f c samples b o' → o' ≡ o
reads_decided {k} {f} {c} {samples} {b} read z z' m = reads_one (read_below k f b (sym read.number.answer ∙ z.number)) z' z m (read_out read)
