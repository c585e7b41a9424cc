-- Each call's refusal table, in document 01's numbers and bytes, gives exactly the number that the call's contract has. Assumes nothing.
use Rattle.std.specs.Prelude.{Some}
use mathlib.Core.Path.{◌≡◌, refl, sym, ap, ◌∙◌}
use mathlib.Core.Bool.{true, false, not, ◌||◌}
use mathlib.Core.List.{List, [], ◌∷◌}
use mathlib.Core.Logic.{◌⊎◌, inl, inr, ⊎_elim}
use Prim.Native.Nat.{ℕ, ◌*◌, ◌/◌, ◌≤◌}
use native.Mathlib.Omega.{arith}
use lib.Dec.{eqb, leb}
use lib.ListN.{length, get_or}
use borrow.Author.Tests.{leb-true, leb-false}
use Rattle.base.specs.Calls.{first_of, ◌when◌}
use Rattle.base.proofs.Cases.{by_bool}
use Rattle.base.proofs.Picks.{neither}
use Rattle.paper.specs.declared.System.{System}
use Rattle.paper.specs.declared.Place.{Place}
use Rattle.rules_format.specs.Systems.{sequences_of, positions_of, system_of, positions_in, frame_bytes}
use Rattle.rules_format.specs.Blocks.{block_at}
use Rattle.rules_format.specs.Faults.{fault_at}
use Rattle.rules_surveys.specs.ReadId.{id_number}
use Rattle.rules_surveys.specs.Survey.{outside_sequences, survey_number, sequence_number}
use Rattle.rules_surveys.specs.View.{viewed_block, view_number}
use Rattle.rules_surveys.specs.Salvage.{salvage_number}
use Rattle.paper.specs.Paper.{sequences, positions, byte_at, fault}
use Rattle.promises.specs.Refusals.{◌else◌, none, OwnFault, id_table, survey_table, salvage_table, sequence_table, view_table}
use Rattle.rules_format.proofs.Paper.{columns, fault_is, byte_at_lem}
use Rattle.rules_format.proofs.Blocks.{block_length}
use Rattle.rules_surveys.proofs.Calls.{inside_means}
use Rattle.promises.proofs.Tables.{Exactly, exactly_none, row_exactly, row_differs, row_fault, row_system, row_length}

-- ---- read_id

pub id_exactly : (id : List ℕ) → Exactly (id_table id) (id_number id)
unfolding id_number
id_exactly id =
    row_differs 4 (length id) 3 3 _ _ refl (λ three.
    row_exactly 11 (leb 5 (get_or id 0 0 / 32)) none [] (λ e. leb-true _ _ e) (λ e l. omega (arith, l, leb-false 5 (get_or id 0 0 / 32) e)) (λ e. exactly_none))

-- ---- survey, salvage

pub survey_exactly : (k size : ℕ) → Exactly (survey_table k size) (survey_number k size)
unfolding survey_number
survey_exactly k size =
    row_system k _ (λ s. 2 when not (eqb size (frame_bytes s)) ∷ []) (λ y known. row_length k y known size none [] (λ whole. exactly_none))

pub salvage_exactly : (k : ℕ) (f : List ℕ) (room : ℕ) → Exactly (salvage_table k (length f) room) (salvage_number k f room)
unfolding salvage_number
salvage_exactly k f room =
    row_system k _ (λ s. 2 when not (eqb (length f) (frame_bytes s)) ∷ 4 when not (eqb room (8 * positions_in s)) ∷ [])
    (λ y known.
    row_length k y known (length f) _ _ (λ whole.
    row_differs 4 room (8 * positions_of y) (8 * positions k) none [] (ap (λ (n : ℕ). 8 * n) (columns k y known).positions_is) (λ e. exactly_none)))

-- ---- survey_sequence

module _ (k : ℕ) (y : System) (known : system_of k ≡ Some y) (h q : ℕ) where
  outside_means : outside_sequences (Some y) h q ≡ true → (4 ≤ h) ⊎ (sequences k ≤ q)
  outside_means e =
      by_bool (leb 4 h)
      (λ t. inl (leb-true 4 h t))
      (λ t. let l = leb-true (sequences_of y) q (rw t at e) in inr (omega (arith, l, (columns k y known).sequences_is)))

  outside_not : outside_sequences (Some y) h q ≡ false → (4 ≤ h) ⊎ (sequences k ≤ q) → ⊥
  outside_not e =
      let two = neither (leb 4 h) (leb (sequences_of y) q) e in
      ⊎_elim (λ l. omega (arith, l, leb-false 4 h two.0)) (λ l. omega (arith, l, leb-false (sequences_of y) q two.1, (columns k y known).sequences_is))

pub sequence_exactly : (k h q size : ℕ) → Exactly (sequence_table k h q size) (sequence_number k h q size)
unfolding sequence_number
sequence_exactly k h q size =
    row_system k _ (λ s. 3 when outside_sequences s h q ∷ 4 when not (eqb size 12000) ∷ [])
    (λ y known.
    row_exactly 3 (outside_sequences (Some y) h q) _ _ (outside_means k y known h q) (outside_not k y known h q)
    (λ e. row_differs 4 size 12000 12000 none [] refl (λ s. exactly_none)))

-- ---- view_number, view, view_at

module _ (k : ℕ) (y : System) (known : system_of k ≡ Some y) (f : List ℕ) (whole : length f ≡ 48000 * sequences_of y) (h q p : ℕ) where
  module _ (inside : (outside_sequences (Some y) h q || leb 150 p) ≡ false) where
    own_fault : fault_at (block_at y f h q p) h q p ≡ fault (byte_at (sequences k) f h q p 0) (byte_at (sequences k) f h q p 1) (byte_at (sequences k) f h q p 2) h q p
    own_fault =
        let two = neither (outside_sequences (Some y) h q) (leb 150 p) inside in
        let i = inside_means y h q two.0 in
        let wide = block_length y f h q p whole i.0 i.1 (leb-false 150 p two.1) in
        fault_is (block_at y f h q p) h q p (omega (arith, wide))
        ∙ rw (byte_at_lem y f h q p 0 (omega arith), byte_at_lem y f h q p 1 (omega arith), byte_at_lem y f h q p 2 (omega arith), (columns k y known).sequences_is) refl

    row_own : Exactly (OwnFault (sequences k) f h q p else none) (first_of (fault_at (block_at y f h q p) h q p when not (eqb (fault_at (block_at y f h q p) h q p) 0) ∷ []))
    row_own =
        row_fault (OwnFault (sequences k) f h q p) none (fault_at (block_at y f h q p) h q p) []
        (λ d. record { is = own_fault; some = d })
        (λ r g. (g.some, g.is ∙ sym own_fault))
        (λ z. exactly_none)

  away_means : (outside_sequences (Some y) h q || leb 150 p) ≡ true → ((4 ≤ h) ⊎ (sequences k ≤ q)) ⊎ (150 ≤ p)
  away_means e =
      by_bool (outside_sequences (Some y) h q)
      (λ t. inl (outside_means k y known h q t))
      (λ t. inr (leb-true 150 p (rw t at e)))

  away_not : (outside_sequences (Some y) h q || leb 150 p) ≡ false → ((4 ≤ h) ⊎ (sequences k ≤ q)) ⊎ (150 ≤ p) → ⊥
  away_not e =
      let two = neither (outside_sequences (Some y) h q) (leb 150 p) e in
      ⊎_elim (outside_not k y known h q two.0) (λ l. omega (arith, l, leb-false 150 p two.1))

pub view_exactly : (k : ℕ) (f : List ℕ) (h q : ℕ) (p : Place) → Exactly (view_table k f h q p.0) (view_number k f h q p)
unfolding view_number
view_exactly k f h q p =
    row_system k _
    (λ s.
    2 when not (eqb (length f) (frame_bytes s))
    ∷ 3 when (outside_sequences s h q || leb 150 p.0)
    ∷ fault_at (viewed_block s f h q p.0) h q p.0 when not (eqb (fault_at (viewed_block s f h q p.0) h q p.0) 0)
    ∷ [])
    (λ y known.
    row_length k y known (length f) _ _ (λ whole.
    row_exactly 3 (outside_sequences (Some y) h q || leb 150 p.0) _ _ (away_means k y known f whole h q p.0) (away_not k y known f whole h q p.0)
    (row_own k y known f whole h q p.0)))
