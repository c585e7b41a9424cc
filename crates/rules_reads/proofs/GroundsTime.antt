-- What 26 and 27 are given for, in document 01's bytes. Assumes nothing.
use Rattle.std.specs.Prelude.{Some}
use mathlib.Core.Path.{◌≡◌, refl, sym, ap, ◌∙◌}
use mathlib.Core.Bool.{true, false, not, ◌&&◌}
use mathlib.Core.List.{List, ◌∷◌}
use mathlib.Core.Logic.{inl, inr, ⊎_elim, ◌≢◌}
use Prim.Native.Nat.{ℕ, zero, suc, ◌+◌, ◌*◌, ◌/◌, ◌%◌, ◌<◌}
use native.Mathlib.Nat.{add-zero}
use native.Mathlib.Omega.{arith}
use lib.Dec.{eqb}
use lib.ListN.{get_or}
use borrow.Author.Tests.{not-true, not-false}
use Rattle.base.specs.Calls.{Refusal, first_of, ◌when◌}
use Rattle.base.specs.Pick.{pick}
use Rattle.base.proofs.Below.{below_some}
use Rattle.base.proofs.Cases.{by_bool, by_eq, clash}
use Rattle.base.proofs.Picks.{both_held, both_hold}
use Rattle.paper.specs.declared.System.{System}
use Rattle.rules_packs.proofs.Judged.{time_wrong, time_right}
use Rattle.rules_packs.proofs.Written.{is_time_lem, is_group_lem, holds_time_lem, holds_group_lem}
use Rattle.paper.specs.declared.Pack.{Pack}
use Rattle.paper.specs.declared.SubcodePack.{SubcodePack}
use Rattle.paper.specs.declared.SubcodePack.TheVariants.{TimeCode, BinaryGroup, NoPack}
use Rattle.rules_format.specs.Systems.{rate_of, system_of}
use Rattle.rules_format.specs.Blocks.{sequence_at, block_in}
use Rattle.rules_packs.specs.TimeCode.{time_ok, group_ok}
use Rattle.rules_packs.specs.Subcode.{is_first, kind_of}
use Rattle.rules_reads.specs.Check.{every_sequence}
use Rattle.rules_reads.specs.Time.{ssyb_in, time_first, group_first, with_bit6, settled, same_pack, pack_agrees, subcode_agrees}
use Rattle.paper.specs.Paper.{sequences}
use Rattle.promises.specs.Refusals.{Table, ◌if◌, ◌else◌, SomeInFrame, ssyb_at, WrongFirst, Differs}
use Rattle.paper.specs.Bytes.{compared}
use Rattle.promises.specs.Refusals.WrongFirst.{wrong_time_header, wrong_digit, wrong_group_header}
use Rattle.promises.specs.Refusals.Differs.{other_time, other_group}
use Rattle.rules_format.proofs.Paper.{columns, time_below, group_below}
use Rattle.rules_packs.proofs.Packs.{group_means, group_when}
use Rattle.rules_packs.proofs.Subcode.{is_time, is_group}
use Rattle.rules_reads.proofs.Time.{same_when, subcode_time, subcode_group}
use Rattle.promises.proofs.Tables.{Exactly, row_exactly}
use Rattle.rules_reads.proofs.Grounds.{byte_here, every_exactly}

-- ---- 26, 27

-- a byte of two packs differs
same_not : {P : Type 0} (p o : Pack) → same_pack p o ≡ false → (p.pc0 ≢ o.pc0 → P) → (p.pc1 ≢ o.pc1 → P) → (p.pc2 ≢ o.pc2 → P) → (p.pc3 ≢ o.pc3 → P)
    → (p.pc4 ≢ o.pc4 → P) → P
same_not p o e d0 d1 d2 d3 d4 =
    by_eq p.pc0 o.pc0
    (λ e0.
    by_eq p.pc1 o.pc1
    (λ e1.
    by_eq p.pc2 o.pc2
    (λ e2.
    by_eq p.pc3 o.pc3
    (λ e3.
    by_eq p.pc4 o.pc4
    (λ e4. absurd (clash (same_when p o (λ i. record { pc0 = e0 i; pc1 = e1 i; pc2 = e2 i; pc3 = e3 i; pc4 = e4 i })) e))
    d4) d3) d2) d1) d0

-- a frame of system k
module _ (k : ℕ) (y : System) (known : system_of k ≡ Some y) (f : List ℕ) where
  -- the pack of SSYB j of a sequence, by the frame's bytes
  abbrev pack_at : ℕ → ℕ → ℕ → Pack
  pack_at h q j = record {
    pc0 = ssyb_at (sequences k) f h q j 0;
    pc1 = ssyb_at (sequences k) f h q j 1;
    pc2 = ssyb_at (sequences k) f h q j 2;
    pc3 = ssyb_at (sequences k) f h q j 3;
    pc4 = ssyb_at (sequences k) f h q j 4;
  }

  pack_is : (h q j : ℕ) → j < 12 → ssyb_in j (sequence_at y f h q) ≡ pack_at h q j
  pack_is h q j l =
      let byte : (i : ℕ) → i < 5 → get_or (block_in (sequence_at y f h q) (1 + j / 6)) (6 + 8 * (j % 6) + i) 0 ≡ ssyb_at (sequences k) f h q j i =
      λ i hi. byte_here k y known f h q (1 + j / 6) (6 + 8 * (j % 6) + i) (omega arith) (omega arith) in
      let b0 : get_or (block_in (sequence_at y f h q) (1 + j / 6)) (6 + 8 * (j % 6)) 0 ≡ ssyb_at (sequences k) f h q j 0 =
      ap (λ (i : ℕ). get_or (block_in (sequence_at y f h q) (1 + j / 6)) i 0) (sym (add-zero (6 + 8 * (j % 6)))) ∙ byte 0 (omega arith) in
      let b1 = byte 1 (omega arith) in
      let b2 = byte 2 (omega arith) in
      let b3 = byte 3 (omega arith) in
      let b4 = byte 4 (omega arith) in
      λ i. record { pc0 = b0 i; pc1 = b1 i; pc2 = b2 i; pc3 = b3 i; pc4 = b4 i }

  time_is : time_first y f ≡ pack_at 0 0 3
  unfolding time_first
  time_is = pack_is 0 0 3 (omega arith)

  group_is : group_first y f ≡ pack_at 0 0 4
  unfolding group_first
  group_is = pack_is 0 0 4 (omega arith)

  -- ---- 26

  first_is : (time_ok y (time_first y f) && group_ok (group_first y f)) ≡ (time_ok y (pack_at 0 0 3) && group_ok (pack_at 0 0 4))
  first_is = rw (time_is, group_is) refl

  pub row_26 : (table : Table) (rows : List Refusal) → ((time_ok y (time_first y f) && group_ok (group_first y f)) ≡ true → Exactly table (first_of rows))
      → Exactly (26 if WrongFirst k f else table) (first_of (26 when not (time_ok y (time_first y f) && group_ok (group_first y f)) ∷ rows))
  row_26 table rows rest =
      row_exactly 26 (not (time_ok y (time_first y f) && group_ok (group_first y f))) table rows
      (λ e. wrong (sym first_is ∙ not-true _ e))
      (λ e. right (sym first_is ∙ not-false _ e))
      (λ e. rest (not-false _ e))
    where
      wrong : (time_ok y (pack_at 0 0 3) && group_ok (pack_at 0 0 4)) ≡ false → WrongFirst k f
      wrong e =
          by_bool (time_ok y (pack_at 0 0 3))
          (λ time.
          by_eq (pack_at 0 0 4).pc0 0x14
          (λ group. absurd (clash (both_hold time (group_when (pack_at 0 0 4) group)) e))
          wrong_group_header)
          (λ d. ⊎_elim wrong_time_header wrong_digit (time_wrong k y known (pack_at 0 0 3) d))

      broken : time_ok y (pack_at 0 0 3) ≡ true → ((pack_at 0 0 4).pc0 ≡ 0x14) → WrongFirst k f → ⊥
      broken time group (wrong_time_header d) = time_right k y known (pack_at 0 0 3) time (inl d)
      broken time group (wrong_digit w) = time_right k y known (pack_at 0 0 3) time (inr w)
      broken time group (wrong_group_header d) = d group

      right : (time_ok y (pack_at 0 0 3) && group_ok (pack_at 0 0 4)) ≡ true → WrongFirst k f → ⊥
      right e =
          let two = both_held (time_ok y (pack_at 0 0 3)) (group_ok (pack_at 0 0 4)) e in
          broken two.0 (group_means (pack_at 0 0 4) two.1)

  -- ---- 27

  -- a first byte is compared as it is settled
  settled_same : (x z : ℕ) → compared k 1 x ≡ compared k 1 z → pick (eqb (rate_of y) 1) (with_bit6 x) x ≡ pick (eqb (rate_of y) 1) (with_bit6 z) z
  unfolding pick
  settled_same x z e =
      let r = (columns k y known).rate_is in
      by_bool (eqb (rate_of y) 1)
      (λ t. let s : x / 128 * 128 + x % 64 ≡ z / 128 * 128 + z % 64 = rw (r, t) at e in rw t (omega (arith, s)))
      (λ t. let s : x ≡ z = rw (r, t) at e in rw t s)

  compared_same : (x z : ℕ) → pick (eqb (rate_of y) 1) (with_bit6 x) x ≡ pick (eqb (rate_of y) 1) (with_bit6 z) z → compared k 1 x ≡ compared k 1 z
  unfolding pick
  compared_same x z e =
      let r = (columns k y known).rate_is in
      by_bool (eqb (rate_of y) 1)
      (λ t. let s : with_bit6 x ≡ with_bit6 z = rw t at e in rw (r, t) (omega (arith, s)))
      (λ t. let s : x ≡ z = rw t at e in rw (r, t) s)

  module _ (h q : ℕ) where
    abbrev part : List ℕ
    part = sequence_at y f h q

    agrees_is : (j : ℕ) → j < 12 → (kind : SubcodePack)
        → pack_agrees y (time_first y f) (group_first y f) kind (ssyb_in j part) ≡ pack_agrees y (pack_at 0 0 3) (pack_at 0 0 4) kind (pack_at h q j)
    agrees_is j l kind = rw (time_is, group_is) (ap (pack_agrees y (pack_at 0 0 3) (pack_at 0 0 4) kind) (pack_is h q j l))

    time_differs : (j : ℕ) → kind_of (is_first y q) j ≡ TimeCode → j < 12 → same_pack (settled y (pack_at h q j)) (settled y (pack_at 0 0 3)) ≡ false → Differs k f h q
    unfolding settled pick
    time_differs j t l d =
        let held = holds_time_lem k y known q j l ∙ ap is_time t in
        same_not (settled y (pack_at h q j)) (settled y (pack_at 0 0 3)) d
        (λ n. other_time j 0 held (omega arith) n)
        (λ n. other_time j 1 held (omega arith) (λ z. n (settled_same _ _ z)))
        (λ n. other_time j 2 held (omega arith) n)
        (λ n. other_time j 3 held (omega arith) n)
        (λ n. other_time j 4 held (omega arith) n)

    group_differs : (j : ℕ) → kind_of (is_first y q) j ≡ BinaryGroup → j < 12 → same_pack (pack_at h q j) (pack_at 0 0 4) ≡ false → Differs k f h q
    group_differs j t l d =
        let held = holds_group_lem k y known q j l ∙ ap is_group t in
        same_not (pack_at h q j) (pack_at 0 0 4) d
        (λ n. other_group j 0 held (omega arith) n)
        (λ n. other_group j 1 held (omega arith) n)
        (λ n. other_group j 2 held (omega arith) n)
        (λ n. other_group j 3 held (omega arith) n)
        (λ n. other_group j 4 held (omega arith) n)

    kind_differs : (j : ℕ) → j < 12 → (kind : SubcodePack) → kind_of (is_first y q) j ≡ kind → pack_agrees y (pack_at 0 0 3) (pack_at 0 0 4) kind (pack_at h q j) ≡ false
        → Differs k f h q
    unfolding pack_agrees
    kind_differs j l TimeCode t d = time_differs j t l d
    kind_differs j l BinaryGroup t d = group_differs j t l d
    kind_differs j l NoPack t d = absurd (clash refl d)

    differs : subcode_agrees y (time_first y f) (group_first y f) q part ≡ false → Differs k f h q
    unfolding subcode_agrees
    differs e =
        below_some (λ (j : ℕ). pack_agrees y (time_first y f) (group_first y f) (kind_of (is_first y q) j) (ssyb_in j part)) 12 e
        (λ j l d. kind_differs j l (kind_of (is_first y q) j) refl (sym (agrees_is j l (kind_of (is_first y q) j)) ∙ d))

    -- each byte of a time code that is settled the same compares the same, and of a binary group that is the same
    time_byte : (j i : ℕ) → i < 5 → settled y (pack_at h q j) ≡ settled y (pack_at 0 0 3)
        → compared k i (ssyb_at (sequences k) f h q j i) ≡ compared k i (ssyb_at (sequences k) f 0 0 3 i)
    unfolding settled pick
    time_byte j zero l e = ap (λ (p : Pack). p.pc0) e
    time_byte j (suc zero) l e = compared_same _ _ (ap (λ (p : Pack). p.pc1) e)
    time_byte j (suc (suc zero)) l e = ap (λ (p : Pack). p.pc2) e
    time_byte j (suc (suc (suc zero))) l e = ap (λ (p : Pack). p.pc3) e
    time_byte j (suc (suc (suc (suc zero)))) l e = ap (λ (p : Pack). p.pc4) e
    time_byte j (suc (suc (suc (suc (suc i))))) l e = absurd (omega arith)

    group_byte : (j i : ℕ) → i < 5 → pack_at h q j ≡ pack_at 0 0 4 → ssyb_at (sequences k) f h q j i ≡ ssyb_at (sequences k) f 0 0 4 i
    group_byte j zero l e = ap (λ (p : Pack). p.pc0) e
    group_byte j (suc zero) l e = ap (λ (p : Pack). p.pc1) e
    group_byte j (suc (suc zero)) l e = ap (λ (p : Pack). p.pc2) e
    group_byte j (suc (suc (suc zero))) l e = ap (λ (p : Pack). p.pc3) e
    group_byte j (suc (suc (suc (suc zero)))) l e = ap (λ (p : Pack). p.pc4) e
    group_byte j (suc (suc (suc (suc (suc i))))) l e = absurd (omega arith)

    agrees : subcode_agrees y (time_first y f) (group_first y f) q part ≡ true → Differs k f h q → ⊥
    agrees e (other_time j i held hi d) =
        let l = time_below _ q j held in
        let t = is_time_lem (kind_of (is_first y q) j) (sym (holds_time_lem k y known q j l) ∙ held) in
        d (time_byte j i hi (ap (settled y) (sym (pack_is h q j l)) ∙ subcode_time y (time_first y f) (group_first y f) q part e j l t ∙ ap (settled y) time_is))
    agrees e (other_group j i held hi d) =
        let l = group_below _ q j held in
        let t = is_group_lem (kind_of (is_first y q) j) (sym (holds_group_lem k y known q j l) ∙ held) in
        d (group_byte j i hi (sym (pack_is h q j l) ∙ subcode_group y (time_first y f) (group_first y f) q part e j l t ∙ group_is))

  pub row_27 : (table : Table) (rows : List Refusal)
      → (every_sequence y f (subcode_agrees y (time_first y f) (group_first y f)) ≡ true → Exactly table (first_of rows))
      → Exactly (27 if SomeInFrame (sequences k) (Differs k f) else table) (first_of (27 when not (every_sequence y f (subcode_agrees y (time_first y f) (group_first y f))) ∷ rows))
  row_27 table rows rest = every_exactly k y known f 27 (Differs k f) (subcode_agrees y (time_first y f) (group_first y f)) table rows differs agrees rest
