-- What each refusal number is given for, in document 01's bytes, holds exactly where the test of the definitions does. Assumes nothing.
use Rattle.std.specs.Prelude.{Some}
use mathlib.Core.Path.{◌≡◌, refl, sym, ap, ◌∙◌, subst}
use mathlib.Core.Bool.{Bool, true, false, not}
use mathlib.Core.List.{List, ◌∷◌}
use mathlib.Core.Logic.{◌≢◌}
use Prim.Native.Nat.{ℕ, zero, suc, ◌+◌, ◌*◌, ◌/◌, ◌≤◌, ◌<◌}
use native.Mathlib.Nat.{add-zero, not-suc-le-zero}
use native.Mathlib.Omega.{arith}
use lib.ListN.{length, get_or, drop, length-drop}
use lib.Seq.{get_or-take, get_or-drop, length-take-le}
use borrow.Author.Tests.{eq-eqb, ne_eqb, eqb-true, eqb-false, not-true, not-false}
use Rattle.base.specs.Calls.{Refusal, first_of, ◌when◌}
use Rattle.base.proofs.Cases.{by_bool, by_eq}
use Rattle.base.proofs.Picks.{neither}
use Rattle.paper.specs.declared.System.{System}
use Rattle.paper.specs.Bytes.{WrongVs}
use Rattle.promises.specs.Refusals.{VsDisagrees, Table, ◌if◌, ◌else◌, FirstFault, SomeInFrame, WrongDsf, Flagged, vs_byte}
use Rattle.rules_packs.proofs.Judged.{vs_same, vs_wrong, vs_right}
use Rattle.paper.specs.declared.Pack.{Pack}
use Rattle.rules_format.specs.Systems.{sequences_of, system_of}
use Rattle.rules_format.specs.Blocks.{sequence_at, block_in}
use Rattle.rules_packs.specs.Header.{flagged}
use Rattle.rules_packs.specs.Vaux.{vs_ok}
use Rattle.rules_format.specs.Faults.{fault_at}
use Rattle.rules_format.specs.Stream.{blocks_in, nth_block, channel_at, dseq_at, place_at, named}
use Rattle.rules_reads.specs.Check.{every_sequence, header_in, vs_in, dsf_agrees, vs_agrees, unflagged, fault_in}
use Rattle.paper.specs.Paper.{sequences, byte_at, stream_fault, vaux_place, vaux_byte, vs_pack}
use Rattle.rules_format.proofs.Paper.{Columns, columns, fault_is, byte_in}
use Rattle.promises.proofs.Tables.{Exactly, row_exactly}
use Rattle.rules_packs.proofs.Vaux.{vs_below}
use Rattle.rules_surveys.proofs.FaultLists.{faults_stream}
use Rattle.rules_reads.proofs.Check.{every_means, every_some, unnamed_none, fault_first, fault_none}

-- a frame of system k
module _ (k : ℕ) (y : System) (known : system_of k ≡ Some y) (f : List ℕ) where
  cols : Columns k y
  cols = columns k y known

  -- byte i of the block at place p of a sequence
  pub byte_here : (h q p i : ℕ) → p < 150 → i < 80 → get_or (block_in (sequence_at y f h q) p) i 0 ≡ byte_at (sequences k) f h q p i
  byte_here h q p i hp hi = byte_in y f h q p i hi hp ∙ ap (λ (n : ℕ). byte_at n f h q p i) (sym cols.sequences_is)

  -- ---- 11 to 15

  module _ (whole : length f ≡ 48000 * sequences_of y) where
    nth_fault : (j : ℕ) → j < blocks_in y → fault_at (nth_block f j) (channel_at y j) (dseq_at y j) (place_at j) ≡ stream_fault (sequences k) f j j
    nth_fault j l =
        let byte : (i : ℕ) → i < 80 → get_or (nth_block f j) i 0 ≡ get_or f (j * 80 + i) 0 = λ i hi. get_or-take 80 (drop (j * 80) f) i 0 hi ∙ get_or-drop (j * 80) f i 0 in
        let b0 : get_or (nth_block f j) 0 0 ≡ get_or f (j * 80) 0 = byte 0 (omega arith) ∙ rw add-zero refl in
        let long : 3 ≤ length (nth_block f j) = omega (arith, length-take-le 80 (drop (j * 80) f) (omega (arith, length-drop (j * 80) f))) in
        fault_is (nth_block f j) (channel_at y j) (dseq_at y j) (place_at j) long
        ∙ rw (b0, byte 1 (omega arith), byte 2 (omega arith), cols.sequences_is) refl

    names_means : (j : ℕ) → j < blocks_in y → named y f j ≡ true → stream_fault (sequences k) f j j ≡ 0
    names_means j l e = sym (nth_fault j l) ∙ eqb-true _ _ e

    names_when : (j : ℕ) → j < blocks_in y → stream_fault (sequences k) f j j ≡ 0 → named y f j ≡ true
    names_when j l e = eq-eqb _ _ (nth_fault j l ∙ e)

    -- all of the first m blocks name their place, or one is the first that does not
    first_or : {P : Type 0} (m : ℕ) → (((j : ℕ) → j < m → named y f j ≡ true) → P)
        → ((j : ℕ) → j < m → ((i : ℕ) → i < j → named y f i ≡ true) → named y f j ≡ false → P) → P
    first_or zero all one = all (λ j l. absurd (not-suc-le-zero l))
    first_or (suc m) all one =
        first_or m
        (λ before.
        by_bool (named y f m)
        (λ e. all (λ j l. by_eq j m (λ s. rw s e) (λ d. before j (omega (arith, d)))))
        (λ e. one m (omega arith) before e))
        (λ j l before e. one j (omega arith) before e)

    pub fault_given : fault_in y f ≢ 0 → FirstFault (sequences k) f (fault_in y f)
    fault_given d =
        first_or (blocks_in y)
        (λ all. absurd (d (fault_none y f (faults_stream y f ∙ unnamed_none y f (blocks_in y) all))))
        (λ j l before e. record {
          j = j;
          within = omega (arith, cols.sequences_is);
          before = λ i b. names_means i (omega arith) (before i b);
          is = fault_first y f j l before e ∙ nth_fault j l;
          some = d;
        })

    pub fault_only : (r : ℕ) → FirstFault (sequences k) f r → (r ≢ 0) × (r ≡ fault_in y f)
    fault_only r g =
        let l : g.j < blocks_in y = omega (arith, g.within, cols.sequences_is) in
        let e : named y f g.j ≡ false = ne_eqb _ _ (λ z. g.some (g.is ∙ sym (nth_fault g.j l) ∙ z)) in
        (g.some, g.is ∙ sym (nth_fault g.j l) ∙ sym (fault_first y f g.j l (λ i b. names_when i (omega arith) (g.before i b)) e))

  -- ---- a condition on the sequences of the frame

  pub every_exactly : (number : ℕ) (Is : ℕ → ℕ → Type 0) (test : ℕ → List ℕ → Bool) (table : Table) (rows : List Refusal)
      → ((h q : ℕ) → test q (sequence_at y f h q) ≡ false → Is h q)
      → ((h q : ℕ) → test q (sequence_at y f h q) ≡ true → Is h q → ⊥)
      → (every_sequence y f test ≡ true → Exactly table (first_of rows))
      → Exactly (number if SomeInFrame (sequences k) Is else table) (first_of (number when not (every_sequence y f test) ∷ rows))
  every_exactly number Is test table rows wrong right rest =
      row_exactly number (not (every_sequence y f test)) table rows
      (λ e.
      every_some y f test (not-true _ e) (λ h q hh hq d.
      record { h = h; q = q; channel = hh; sequence = omega (arith, cols.sequences_is); is = wrong h q d }))
      (λ e s. right s.h s.q (every_means y f test (not-false _ e) s.h s.q s.channel (omega (arith, s.sequence, cols.sequences_is))) s.is)
      (λ e. rest (not-false _ e))

  -- ---- 21

  pub dsf_wrong : (h q : ℕ) → dsf_agrees y q (sequence_at y f h q) ≡ false → WrongDsf k f h q
  dsf_wrong h q e z = eqb-false _ _ e (ap (λ (b : ℕ). b / 128) (byte_here h q 0 3 (omega arith) (omega arith)) ∙ z ∙ cols.rate_is)

  pub dsf_right : (h q : ℕ) → dsf_agrees y q (sequence_at y f h q) ≡ true → WrongDsf k f h q → ⊥
  dsf_right h q e d = d (sym (ap (λ (b : ℕ). b / 128) (byte_here h q 0 3 (omega arith) (omega arith))) ∙ eqb-true _ _ e ∙ sym cols.rate_is)

  -- ---- 23, and the flag of 22

  flag_is : (i h q : ℕ) → i < 4 → get_or (header_in (sequence_at y f h q)) (4 + i) 0 / 128 ≡ byte_at (sequences k) f h q 0 (4 + i) / 128
  flag_is i h q hi = ap (λ (b : ℕ). b / 128) (byte_here h q 0 (4 + i) (omega arith) (omega arith))

  pub flag_wrong : (i h q : ℕ) → i < 4 → unflagged i q (sequence_at y f h q) ≡ false → Flagged (4 + i) (sequences k) f h q
  flag_wrong i h q hi e = sym (flag_is i h q hi) ∙ eqb-true _ _ (not-false _ e)

  pub flag_right : (i h q : ℕ) → i < 4 → unflagged i q (sequence_at y f h q) ≡ true → Flagged (4 + i) (sequences k) f h q → ⊥
  flag_right i h q hi e z = eqb-false _ _ (not-true _ e) (flag_is i h q hi ∙ z)

  -- ---- 22

  abbrev vs : ℕ → ℕ → Pack
  vs h q = vs_in q (sequence_at y f h q)

  vs_0 : (h q : ℕ) → (vs h q).pc0 ≡ vs_byte (sequences k) f h q 0
  vs_0 h q = rw (vs_same q, add-zero) (byte_here h q (vaux_place (vs_pack q)) (vaux_byte (vs_pack q)) (omega (arith, vs_below q, vs_same q)) (omega arith))

  vs_3 : (h q : ℕ) → (vs h q).pc3 ≡ vs_byte (sequences k) f h q 3
  vs_3 h q = rw (vs_same q) (byte_here h q (vaux_place (vs_pack q)) (vaux_byte (vs_pack q) + 3) (omega (arith, vs_below q, vs_same q)) (omega arith))

  pub vs_disagrees : (h q : ℕ) → vs_agrees y q (sequence_at y f h q) ≡ false → VsDisagrees k f h q
  vs_disagrees h q e =
      let two = neither (flagged 2 (header_in (sequence_at y f h q))) (vs_ok y (vs h q)) e in
      record {
        valid = λ z. eqb-false _ _ two.0 (flag_is 2 h q (omega arith) ∙ z);
        wrong = subst (λ (b : ℕ). WrongVs k b (vs_byte (sequences k) f h q 3)) (vs_0 h q)
            (subst (λ (b : ℕ). WrongVs k (vs h q).pc0 b) (vs_3 h q) (vs_wrong k y known (vs h q) two.1));
      }

  pub vs_agreed : (h q : ℕ) → vs_agrees y q (sequence_at y f h q) ≡ true → VsDisagrees k f h q → ⊥
  vs_agreed h q e w =
      by_bool (flagged 2 (header_in (sequence_at y f h q)))
      (λ t. w.valid (sym (flag_is 2 h q (omega arith)) ∙ eqb-true _ _ t))
      (λ t.
      vs_right k y known (vs h q) (rw t at e)
      (subst (λ (b : ℕ). WrongVs k b (vs h q).pc3) (sym (vs_0 h q)) (subst (λ (b : ℕ). WrongVs k (vs_byte (sequences k) f h q 0) b) (sym (vs_3 h q)) w.wrong)))
