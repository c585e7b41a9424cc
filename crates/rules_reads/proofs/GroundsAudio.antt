-- What 24 and 25 are given for, in document 01's bytes. Assumes nothing.
use Rattle.std.specs.Prelude.{Some}
use mathlib.Core.Path.{◌≡◌, sym, ap, ◌∙◌, subst}
use mathlib.Core.Bool.{Bool, true, false, not, ◌&&◌}
use mathlib.Core.List.{List, ◌∷◌}
use mathlib.Core.Logic.{inl, inr, ⊎_elim}
use Prim.Native.Nat.{ℕ, ◌+◌, ◌*◌, ◌/◌, ◌%◌, ◌<◌}
use native.Mathlib.Nat.{add-zero}
use native.Mathlib.Omega.{arith}
use lib.Dec.{eqb}
use lib.ListN.{get_or}
use borrow.Author.Tests.{eqb-true, eqb-false, not-true, not-false}
use Rattle.base.specs.Calls.{Refusal, first_of, ◌when◌}
use Rattle.base.proofs.Cases.{by_bool, clash}
use Rattle.base.proofs.Picks.{both_held, both_hold}
use Rattle.paper.specs.declared.System.{System}
use Rattle.rules_packs.specs.Aaux.{as_ok, as_at, count_in, mode_in}
use Rattle.promises.specs.Refusals.{AsBreaks, Table, ◌if◌, ◌else◌, SomeInHalf, as_byte, DifferInHalf, AsDiffer}
use Rattle.rules_packs.proofs.Judged.{as_same, as_wrong, as_right, count_by_lem}
use Rattle.paper.specs.declared.Pack.{Pack}
use Rattle.rules_format.specs.Systems.{half_of, system_of}
use Rattle.rules_format.specs.Blocks.{sequence_at, block_in}
use Rattle.rules_format.specs.Sound.{dif_of}
use Rattle.rules_reads.specs.Audio.{first_of_half, every_in_half, as_in, as_keeps, first_as, count_for, mode_for, count_is, mode_is, as_agree}
use Rattle.paper.specs.Paper.{sequences, sound_channel, sound_first, as_pack, count_said, mode_said}
use Rattle.rules_format.proofs.Paper.{Columns, columns}
use Rattle.rules_format.proofs.Systems.{half_cases}
use Rattle.rules_format.proofs.Sound.{half_some}
use Rattle.rules_packs.proofs.Aaux.{as_below}
use Rattle.rules_reads.proofs.Check.{from_means, from_some}
use Rattle.promises.proofs.Tables.{Exactly, row_exactly}
use Rattle.rules_reads.proofs.Grounds.{byte_here}

module _ (k : ℕ) (y : System) (known : system_of k ≡ Some y) (f : List ℕ) (c : ℕ) where
  cols : Columns k y
  cols = columns k y known

  half_is : sequences k / 2 ≡ half_of y
  unfolding half_of
  half_is = ap (λ (n : ℕ). n / 2) cols.sequences_is

  first_is : sound_first (sequences k) c ≡ first_of_half y c
  first_is = ap (λ (s : ℕ). s * ((c + 1) % 2)) half_is

  -- ---- a condition on the sequences of the channel's half

  half_every : (number : ℕ) (Is : ℕ → ℕ → Type 0) (test : ℕ → List ℕ → Bool) (table : Table) (rows : List Refusal)
      → ((q : ℕ) → test q (sequence_at y f (dif_of c) q) ≡ false → Is (dif_of c) q)
      → ((q : ℕ) → test q (sequence_at y f (dif_of c) q) ≡ true → Is (dif_of c) q → ⊥)
      → (every_in_half y f c test ≡ true → Exactly table (first_of rows))
      → Exactly (number if SomeInHalf (sequences k) c Is else table) (first_of (number when not (every_in_half y f c test) ∷ rows))
  half_every number Is test table rows wrong right rest =
      row_exactly number (not (every_in_half y f c test)) table rows
      (λ e.
      from_some y f test (dif_of c) (first_of_half y c) (half_of y) (not-true _ e) (λ r l d.
      record { r = r; rank = omega (arith, half_is); is = rw first_is (wrong (first_of_half y c + r) d) }))
      (λ e s.
      right (first_of_half y c + s.r)
      (from_means y f test (dif_of c) (first_of_half y c) (half_of y) (not-false _ e) s.r (omega (arith, s.rank, half_is)))
      (subst (λ (x : ℕ). Is (dif_of c) (x + s.r)) first_is s.is))
      (λ e. rest (not-false _ e))

  -- ---- 24

  -- the AS of a sequence
  abbrev source : ℕ → Pack
  source q = as_in q (sequence_at y f (dif_of c) q)

  as_byte_lem : (q i : ℕ) → i < 5 → get_or (block_in (sequence_at y f (dif_of c) q) (6 + 16 * as_at q)) (3 + i) 0 ≡ as_byte (sequences k) f (dif_of c) q i
  as_byte_lem q i hi = rw (as_same q) (byte_here k y known f (dif_of c) q (6 + 16 * as_pack q) (3 + i) (omega (arith, as_below q, as_same q)) (omega arith))

  abbrev at : ℕ → ℕ → ℕ
  at q i = as_byte (sequences k) f (dif_of c) q i

  as_is : (q : ℕ) → source q ≡ record { pc0 = at q 0; pc1 = at q 1; pc2 = at q 2; pc3 = at q 3; pc4 = at q 4 }
  as_is q =
      let b0 = as_byte_lem q 0 (omega arith) in
      let b1 = as_byte_lem q 1 (omega arith) in
      let b2 = as_byte_lem q 2 (omega arith) in
      let b3 = as_byte_lem q 3 (omega arith) in
      let b4 = as_byte_lem q 4 (omega arith) in
      λ i. record { pc0 = b0 i; pc1 = b1 i; pc2 = b2 i; pc3 = b3 i; pc4 = b4 i }

  as_breaks : (q : ℕ) → as_keeps y c q (sequence_at y f (dif_of c) q) ≡ false → AsBreaks k f c (dif_of c) q
  as_breaks q e = as_wrong k y known c (record { pc0 = at q 0; pc1 = at q 1; pc2 = at q 2; pc3 = at q 3; pc4 = at q 4 }) (sym (ap (as_ok y c) (as_is q)) ∙ e)

  as_kept : (q : ℕ) → as_keeps y c q (sequence_at y f (dif_of c) q) ≡ true → AsBreaks k f c (dif_of c) q → ⊥
  as_kept q e = as_right k y known c (record { pc0 = at q 0; pc1 = at q 1; pc2 = at q 2; pc3 = at q 3; pc4 = at q 4 }) (sym (ap (as_ok y c) (as_is q)) ∙ e)

  pub row_24 : (table : Table) (rows : List Refusal) → (every_in_half y f c (as_keeps y c) ≡ true → Exactly table (first_of rows))
      → Exactly (24 if SomeInHalf (sequences k) c (AsBreaks k f c) else table) (first_of (24 when not (every_in_half y f c (as_keeps y c)) ∷ rows))
  row_24 table rows rest = half_every 24 (AsBreaks k f c) (as_keeps y c) table rows as_breaks as_kept rest

  -- ---- 25: what an AS says, in the definitions and in the frame's bytes

  module _ (says : Pack → ℕ) (said : ℕ → ℕ → ℕ) (same : (q : ℕ) → said (dif_of c) q ≡ says (source q)) where
    pub first_says : says (first_as y f c) ≡ said (sound_channel c) (sound_first (sequences k) c)
    unfolding first_as
    first_says = sym (same (first_of_half y c)) ∙ ap (said (dif_of c)) (sym first_is)

    -- every AS says what the first says
    abbrev agrees : ℕ → List ℕ → Bool
    agrees q part = eqb (says (as_in q part)) (says (first_as y f c))

    rank_says : (r : ℕ) → said (dif_of c) (sound_first (sequences k) c + r) ≡ says (source (first_of_half y c + r))
    rank_says r = rw first_is (same (first_of_half y c + r))

    half_differs : every_in_half y f c agrees ≡ false → DifferInHalf (sequences k) c said
    half_differs e =
        from_some y f agrees (dif_of c) (first_of_half y c) (half_of y) e (λ r l d. record {
          r = r;
          r' = 0;
          rank = omega (arith, half_is);
          rank' = omega (arith, half_is, half_some (half_of y) (half_cases y));
          differ = λ z. eqb-false _ _ d (sym (rank_says r) ∙ z ∙ ap (said (dif_of c)) (add-zero (sound_first (sequences k) c)) ∙ sym first_says);
        })

    half_agrees : every_in_half y f c agrees ≡ true → DifferInHalf (sequences k) c said → ⊥
    half_agrees e d = d.differ (rank_same d.r d.rank ∙ sym (rank_same d.r' d.rank'))
      where
        rank_same : (r : ℕ) → r < sequences k / 2 → said (dif_of c) (sound_first (sequences k) c + r) ≡ says (first_as y f c)
        rank_same r l = rank_says r ∙ eqb-true _ _ (from_means y f agrees (dif_of c) (first_of_half y c) (half_of y) e r (omega (arith, half_is)))

  count_said_lem : (q : ℕ) → count_said (sequences k) f (dif_of c) q ≡ count_in (source q)
  count_said_lem q = sym (count_by_lem (at q 1 % 64)) ∙ sym (ap count_in (as_is q))

  mode_said_lem : (q : ℕ) → mode_said (sequences k) f (dif_of c) q ≡ mode_in (source q)
  mode_said_lem q = sym (ap mode_in (as_is q))

  pub count_first : count_for y f c ≡ count_said (sequences k) f (sound_channel c) (sound_first (sequences k) c)
  count_first = first_says count_in (count_said (sequences k) f) count_said_lem

  pub mode_first : mode_for y f c ≡ mode_said (sequences k) f (sound_channel c) (sound_first (sequences k) c)
  mode_first = first_says mode_in (mode_said (sequences k) f) mode_said_lem

  pub row_25 : (table : Table) (rows : List Refusal) → Exactly table (first_of rows)
      → Exactly (25 if AsDiffer (sequences k) f c else table) (first_of (25 when not (as_agree y f c) ∷ rows))
  unfolding as_agree
  row_25 table rows rest =
      row_exactly 25 (not (counted && moded)) table rows
      (λ e.
      by_bool counted
      (λ yes.
      by_bool moded
      (λ both. absurd (clash (both_hold yes both) (not-true _ e)))
      (λ no. inr (half_differs mode_in (mode_said (sequences k) f) mode_said_lem no)))
      (λ no. inl (half_differs count_in (count_said (sequences k) f) count_said_lem no)))
      (λ e.
      let two = both_held counted moded (not-false _ e) in
      ⊎_elim
      (half_agrees count_in (count_said (sequences k) f) count_said_lem two.0)
      (half_agrees mode_in (mode_said (sequences k) f) mode_said_lem two.1))
      (λ e. rest)
    where
      counted : Bool
      counted = every_in_half y f c (count_is (count_for y f c))

      moded : Bool
      moded = every_in_half y f c (mode_is (mode_for y f c))
