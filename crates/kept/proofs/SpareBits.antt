-- The workshop of "What did the spare bits say?": an ID and its answer, and what the calls answer of two frames that differ in spare bits alone.
-- Assumes nothing.
use mathlib.Core.Path.{◌≡◌, refl, sym, ap, ◌∙◌, subst}
use mathlib.Core.List.{List, [], ◌∷◌}
use mathlib.Core.Logic.{inl, inr, ⊎_elim, ◌≢◌}
use Prim.Native.Nat.{ℕ, ◌+◌, ◌*◌, ◌/◌, ◌<◌}
use native.Mathlib.Omega.{arith}
use lib.IntN.{ℤ}
use lib.ListN.{length, get_or, take, drop}
use Rattle.base.proofs.Cases.{by_lt, by_eq}
use Rattle.paper.specs.declared.IdAnswer.{IdAnswer}
use Rattle.paper.specs.declared.IdValues.{IdValues}
use Rattle.paper.specs.declared.Place.{Place}
use Rattle.paper.specs.declared.Survey.{Survey}
use Rattle.paper.specs.Paper.{sequences, section_at, number_at, channel_bits, bytes_at}
use Rattle.promises.specs.Contents.{Contents}
use Rattle.promises.specs.Demand2.{IdOut}
use Rattle.promises.specs.Refusals.{view_table}
use Rattle.promises.specs.SpareBits.{WithSection, Answerable, told, SameButSpare}
use Rattle.promises.proofs.Tables.{row_past}
use Rattle.promises.proofs.Apart.{replace_gives, listed_same, sequences_two}
use Rattle.promises.proofs.One.{listed_one}
use Rattle.promises.proofs.SpareBits.{spare_refl, spare_alike, spare_as, spare_faults, spare_block, spare_exchanged}
use Rattle.promises.proofs.Headlines as promised
use Rattle.rules_format.specs.Ids.{id_values}
use Rattle.rules_format.specs.Places.{place, entry_at}
use Rattle.rules_format.proofs.Places.{code_below, number_below}
use Rattle.rules_format.proofs.Blocks.{before_channel}
use Rattle.rules_format.proofs.Paper.{figure_section, figure_number}
use Rattle.rules_surveys.specs.ReadId.{IdRead, IdSaid}
use Rattle.rules_surveys.specs.Survey.{SequenceSurveyed}
use Rattle.rules_surveys.specs.View.{ViewNumbered, Viewed}
use Rattle.rules_surveys.proofs.Calls.{read_id_one, id_said_one, view_lies_one}
use Rattle.rules_surveys.proofs.Headlines as surveys
use Rattle.rules_replaces.specs.Replace.{Replaced}
use Rattle.rules_replaces.proofs.Replace.{takes_above, takes_below}
use Rattle.rules_replaces.proofs.Replacing.{by_replaced, replaces}
use Rattle.rules_replaces.proofs.Headlines as replacing
use Rattle.rules_writes.specs.Write.{Wrote}
use Rattle.rules_writes.proofs.Headlines as writes
use Rattle.kept.proofs.Alike.{same_outcome, first_rows, two_parts, same_view}
use Rattle.kept.proofs.Commentary.{few_stored}
use Rattle.kept.proofs.WritingBack.{writes_back}

-- ---- read_id

-- the answer and its values, whichever of them is at hand
said_out : {id : List ℕ} {v : IdValues} → IdSaid id v → IdOut id (read_id_one id).outcome v
said_out {id} said = surveys.ids_out (read_id_one id).meets said

read_out : {id : List ℕ} {o : IdAnswer} → IdRead id o → IdOut id o (id_said_one id).outcome
read_out {id} read = surveys.ids_out read (id_said_one id).meets

pub said_told : {id : List ℕ} {v : IdValues} → IdSaid id v → WithSection id → Answerable v × (told v ≡ id)
said_told said w = promised.id_back (said_out said) w

pub read_told : {id : List ℕ} {o : IdAnswer} → IdRead id o → WithSection id → told (id_values o) ≡ id
read_told read w = let out = read_out read in ap told out.same ∙ (promised.id_back out w).1

pub said_only : {id : List ℕ} {v : IdValues} → IdSaid id v → told v ≡ id → (length id ≡ 3) × (get_or id 0 0 / 32 < 5)
said_only said = promised.id_back_only (said_out said)

pub values_said : {v : IdValues} → Answerable v → WithSection (told v) × ((v' : IdValues) → IdSaid (told v) v' → v' ≡ v)
values_said w = let t = promised.values_back w in (t.0, λ v' said. t.1 _ v' (said_out said))

pub one_answer : {id id' : List ℕ} {v : IdValues} → WithSection id → WithSection id' → IdSaid id v → IdSaid id' v → id ≡ id'
one_answer w w' said said' = sym (said_told said w).1 ∙ (said_told said' w').1

-- 95h, 1Ah, 86h: section 100, bit 4 is 1, arbitrary 0101; Dseq 0001, FSC 1, FSP 0, the reserved bits 10
pub known_answer : {v : IdValues} → IdSaid (0x95 ∷ 0x1A ∷ 0x86 ∷ []) v
    → v ≡ record { number = 0; section = 4; channel = 3; dseq = 1; dbn = 134; arbitrary = 5; reserved = 6 }
unfolding told
known_answer {v} said =
    let good : Answerable (record { number = 0; section = 4; channel = 3; dseq = 1; dbn = 134; arbitrary = 5; reserved = 6 }) =
    record { number = refl; section = omega arith; channel = omega arith; dseq = omega arith; dbn = omega arith; arbitrary = omega arith; reserved = omega arith } in
    (values_said good).1 v said

-- ---- view: the number, and a block that differs in spare bits alone

-- where it answers 0, the place is in the frame
view_inside : {k : ℕ} {f : List ℕ} {h q p : ℕ} → view_table k f h q p 0 → (length f ≡ 48000 * sequences k) × (h < 4) × (q < sequences k) × (p < 150)
view_inside {k} {f} {h} {q} {p} t =
    let two = row_past (λ e. omega (arith, e)) (row_past (λ e. omega (arith, e)) t).1 in
    let three = row_past (λ e. omega (arith, e)) two.1 in (
      (first_rows t).1,
      by_lt h 4 (λ l. l) (λ out. absurd (three.0 (inl (inl out)))),
      by_lt q (sequences k) (λ l. l) (λ out. absurd (three.0 (inl (inr out)))),
      by_lt p 150 (λ l. l) (λ out. absurd (three.0 (inr out))),
    )

module _ {k : ℕ} {f g : List ℕ} (s : SameButSpare (600 * sequences k) f g) {h q : ℕ} {p : Place} {r r' : ℕ} {part part' : List ℕ} (n : ViewNumbered k f h q p r)
    (v : Viewed k f h q p part) (n' : ViewNumbered k g h q p r') (v' : Viewed k g h q p part') where
  number_same : r ≡ r'
  number_same = same_view (spare_alike s) n n'

  block_same : r ≡ 0 → SameButSpare 1 part part'
  block_same z =
      let inside = view_inside (subst (view_table k f h q p.0) z ((surveys.view_answers k f h q p).numbered (r, part) (n, v))) in
      let j = (sequences k * h + q) * 150 + p.0 in
      let zero : j * 80 + 0 ≡ j * 80 = omega arith in
      let before = before_channel (sequences k) h inside.1 in
      let here : part ≡ take 80 (drop (j * 80) f) = rw zero at ((surveys.views_out n v (view_lies_one k f h q p).meets).block z) in
      let there : part' ≡ take 80 (drop (j * 80) g) = rw zero at ((surveys.views_out n' v' (view_lies_one k g h q p).meets).block (sym number_same ∙ z)) in
      rw (here, there) (spare_block s j (omega (arith, inside.2, inside.3, before)) (omega (arith, inside.0, inside.2, inside.3, before)))

  -- a refusal hands out an empty part
  none_same : r ≢ 0 → SameButSpare 1 part part'
  none_same d =
      let here = (surveys.view_answers k f h q p).refused (r, part) (n, v) d in
      let there = (surveys.view_answers k g h q p).refused (r', part') (n', v') (λ z. d (number_same ∙ z)) in
      rw (here, there) spare_refl

  pub same_viewed : (r ≡ r') × SameButSpare 1 part part'
  same_viewed = (number_same, by_eq r 0 block_same none_same)

-- ---- survey_sequence

pub same_sequence : (k h q : ℕ) {f g list list₁ list₂ : List ℕ} {r r' : Survey} → SameButSpare 150 f g → SequenceSurveyed k h q f list r list₁
    → SequenceSurveyed k h q g list r' list₂ → (r ≡ r') × (list₁ ≡ list₂)
same_sequence k h q {f} {g} {list} {list₁} {list₂} {r} {r'} s a a' =
    let e : ◌≡◌ {A = Survey × List ℕ} (r, list₁) (r', list₂) =
    same_outcome (surveys.sequence_answers k h q f list) (surveys.sequence_answers k h q g list) (record { too = λ e. rw s.size e }) a a' (λ z z'.
    let one = listed_one (listed_same (spare_faults s) (surveys.sequences_listed k h q a z)) (surveys.sequences_listed k h q a' z') (z ∙ sym z') in
    λ i. (one.0 i, one.1 i)) in
    two_parts e

-- ---- replace_audio: the number, and a frame that differs in spare bits alone

module _ {k : ℕ} {f g : List ℕ} (s : SameButSpare (600 * sequences k) f g) {c : ℕ} {samples : List ℤ} where
  exchanged_same : {f' g' : List ℕ} → Replaced k f c samples 0 f' → Replaced k g c samples 0 g' → SameButSpare (600 * sequences k) f' g'
  exchanged_same call call' =
      by_replaced call (λ y known t.
      spare_exchanged s (replaces call) (replaces call') y known (takes_above t) (takes_below t) (few_stored call) (few_stored call'))

  pub same_replaced : {r r' : ℕ} {f' g' : List ℕ} → Replaced k f c samples r f' → Replaced k g c samples r' g' → (r ≡ r') × SameButSpare (600 * sequences k) f' g'
  same_replaced {r} {r'} {f'} {g'} call call' =
      let here = replacing.replace_answers k f c samples in
      let there = replacing.replace_answers k g c samples in
      let same : r ≡ r' = there.no_other (r', g') call' r ((replace_gives (spare_alike s) (spare_as s c)).too (here.numbered (r, f') call)) in (
        same,
        by_eq r 0
            (λ z.
            exchanged_same (subst (λ (m : ℕ). Replaced k f c samples m f') z call)
            (subst (λ (m : ℕ). Replaced k g c samples m g') (sym same ∙ z) call'))
            (λ d. rw (here.refused (r, f') call d, there.refused (r', g') call' (λ z. d (same ∙ z))) s),
      )

-- ---- a frame that our writer made: its spare bits are all 1

section_below : (p : ℕ) → section_at p < 5
section_below p = subst (λ (x : ℕ). x < 5) (figure_section p) (code_below (entry_at (place p)).section)

pub ones_written : {k : ℕ} {l : Contents} {frame f : List ℕ} → Wrote k l frame 0 f → (h q p : ℕ) → h < 4 → q < sequences k → p < 150
    → {v : IdValues} → IdSaid (bytes_at (sequences k) f h q p 0 3) v
    → v ≡ record { number = 0; section = section_at p; channel = h; dseq = q; dbn = number_at p; arbitrary = 15; reserved = 7 }
unfolding told
ones_written {k} {l} {frame} {f} wrote h q p hh hq hp {v} said =
    let n = sequences k in
    let few : n < 16 = ⊎_elim (λ ten. omega (arith, ten)) (λ twelve. omega (arith, twelve)) (sequences_two k (first_rows ((writes.write_answers k l frame).numbered (0, f) wrote)).0) in
    let number : number_at p < 256 = omega (arith, number_below p hp, figure_number p) in
    let first : 32 * section_at p + 16 + 15 ≡ 32 * section_at p + 31 = omega arith in
    let id : bytes_at n f h q p 0 3 ≡ (32 * section_at p + 16 + 15) ∷ (16 * q + 4 * channel_bits h + 3) ∷ number_at p ∷ [] =
    (writes_back wrote).laid_out.form.ids h q p hh hq hp ∙ rw first refl in
    let ones : Answerable (record { number = 0; section = section_at p; channel = h; dseq = q; dbn = number_at p; arbitrary = 15; reserved = 7 }) =
    record { number = refl; section = section_below p; channel = hh; dseq = omega arith; dbn = number; arbitrary = omega arith; reserved = omega arith } in
    (values_said ones).1 v (rw id at said)
