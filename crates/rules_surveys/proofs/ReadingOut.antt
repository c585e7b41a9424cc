-- The workshop of the second demand, of IDs and views: what is read of any input, in document 01's numbers and bytes. Assumes nothing.
use mathlib.Core.Path.{◌≡◌, refl, sym, ap, ◌∙◌}
use mathlib.Core.List.{List, [], ◌∷◌}
use Prim.Native.Nat.{ℕ, ◌<◌}
use native.Mathlib.Omega.{arith}
use borrow.Author.Tests.{eq-eqb}
use lib.Dec.{eqb, eqb→eq}
use lib.ListN.{get_or}
use Rattle.base.proofs.Below.{below_at}
use Rattle.base.proofs.Picks.{pick_true}
use Rattle.paper.specs.declared.Section.{Section}
use Rattle.paper.specs.declared.Section.TheVariants.{Header, Subcode, Vaux, Audio, Video}
use Rattle.paper.specs.declared.Place.{Place}
use Rattle.paper.specs.declared.IdAnswer.{IdAnswer}
use Rattle.paper.specs.declared.IdValues.{IdValues}
use Rattle.paper.specs.declared.Part.{Part}
use Rattle.rules_format.specs.Places.{code_of, section_of}
use Rattle.rules_format.specs.Ids.{named_by, spare_in}
use Rattle.rules_surveys.specs.ReadId.{id_number, id_says, IdRead, IdSaid}
use Rattle.rules_surveys.specs.View.{view_number, view_at, ViewNumbered, Viewed, ViewLies}
use Rattle.paper.specs.Paper.{sequences, start, bytes_at}
use Rattle.promises.specs.Demand2.{IdOut, ViewOut}
use Rattle.rules_format.proofs.Places.{code_one, code_section}
use Rattle.rules_format.proofs.Blocks.{part_taken}
use Rattle.rules_format.proofs.Ids.{read_id_4, read_id_11, read_id_0}
use Rattle.rules_surveys.proofs.Calls.{view_1, view_taken, view_lies_number}
use Rattle.rules_surveys.proofs.Answering.{says_number}
use Rattle.rules_format.proofs.Paper.{columns, by_system, channel_by_lem, block_bytes}

-- ---- read_id

abbrev section_in : ℕ → Section
section_in s = get_or (Header ∷ Subcode ∷ Vaux ∷ Audio ∷ Video ∷ []) s Header

section_is : (s : ℕ) → s < 5 → section_of s ≡ section_in s
section_is s h = code_one _ _ (code_section s h ∙ sym (eqb→eq _ _ (below_at (λ j. eqb (code_of (section_in j)) j) 5 tt s h)))

pub id_out : {id : List ℕ} {o : IdAnswer} {v : IdValues} → IdRead id o → IdSaid id v → IdOut id o v
unfolding named_by spare_in id_says
id_out {id} {o} {v} read said =
    record {
      wrong_length = λ d. read.answer ∙ read_id_4 id d;
      reserved = λ three r. read.answer ∙ read_id_11 id three r;
      named = λ three l. read.answer ∙ read_id_0 id three l ∙ rw (section_is _ l, channel_by_lem (get_or id 1 0)) refl;
      same = read.says ∙ sym said.answer;
      values = λ z.
          let zero : id_number id ≡ 0 = sym (ap (λ (x : IdValues). x.number) said.answer ∙ says_number id) ∙ z in
          said.answer ∙ pick_true _ _ (eq-eqb _ 0 zero) ∙ rw (channel_by_lem (get_or id 1 0)) refl;
    }

-- ---- view, view_at

module _ {k : ℕ} {f : List ℕ} {h q : ℕ} {p : Place} where
  block_out : {part : List ℕ} → view_number k f h q p ≡ 0 → Viewed k f h q p part → part ≡ bytes_at (sequences k) f h q p.0 0 80
  block_out z viewed =
      by_system k
      (λ none. absurd (omega (arith, z, view_1 k f h q p none)))
      (λ y known. viewed.answer ∙ view_taken k f h q p y known z ∙ block_bytes y f h q p.0 ∙ rw (columns k y known).sequences_is refl)

  start_out : {r : Part} → view_number k f h q p ≡ 0 → ViewLies k f h q p r → r ≡ record { number = 0; start = start (sequences k) h q p.0; length = 80 }
  unfolding view_at
  start_out z lies =
      by_system k
      (λ none. absurd (omega (arith, z, view_1 k f h q p none)))
      (λ y known. lies.answer ∙ part_taken (view_number k f h q p) _ 80 z ∙ rw (known, (columns k y known).sequences_is) refl)

  pub view_out : {number : ℕ} {part : List ℕ} {r : Part} → ViewNumbered k f h q p number → Viewed k f h q p part → ViewLies k f h q p r
      → ViewOut k f h q p number part r
  view_out numbered viewed lies = record {
    block = λ z. block_out (sym numbered.answer ∙ z) viewed;
    lies = λ z. start_out (sym (view_lies_number k f h q p lies) ∙ z) lies;
  }
