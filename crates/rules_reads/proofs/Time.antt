-- The call `read_time`: one answer for every input, each refusal exactly when its row says; bit 6 of PC1 at 50 Hz. Assumes nothing.
use Rattle.std.specs.Prelude.{Some, None}
use mathlib.Core.Path.{◌≡◌, refl, sym, ◌∙◌}
use mathlib.Core.Bool.{true, false, ◌&&◌}
use mathlib.Core.List.{List, ◌++◌}
use Prim.Native.Nat.{ℕ, ◌*◌, ◌/◌, ◌%◌, ◌<◌}
use native.Mathlib.Omega.{arith}
use lib.Dec.{eqb}
use lib.ListN.{length}
use borrow.Author.Tests.{eq-eqb, ne_eqb, eqb-true}
use Rattle.base.specs.Calls.{first_of, ExactlyOne}
use Rattle.base.specs.Pick.{pick}
use Rattle.base.proofs.Below.{below_means, below_when}
use Rattle.base.proofs.Cases.{by_bool, by_eq}
use Rattle.base.proofs.Picks.{pick_true, pick_false, first_stops, both_held}
use Rattle.paper.specs.declared.System.{System}
use Rattle.paper.specs.declared.Pack.{Pack}
use Rattle.paper.specs.declared.SubcodePack.TheVariants.{TimeCode, BinaryGroup}
use Rattle.paper.specs.declared.TimeAnswer.{TimeAnswer}
use Rattle.rules_format.specs.Systems.{sequences_of, rate_of, system_of}
use Rattle.rules_packs.specs.TimeCode.{time_ok, group_ok}
use Rattle.rules_packs.specs.Subcode.{is_first, kind_of}
use Rattle.rules_reads.specs.Check.{every_sequence, unflagged, check_rows}
use Rattle.rules_reads.specs.Time.{ssyb_in, time_first, group_first, with_bit6, settled, same_pack, pack_agrees, subcode_agrees, time_rows, time_number}
use Rattle.rules_reads.specs.Time.{time_refused, time_found, time_answer, TimeRead}
use Rattle.rules_packs.specs.Packs.{four_bytes}
use Rattle.rules_reads.proofs.Check.{rows_on}

-- ---- settled: at 50 Hz bit 6 of PC1 is 1, and all else is as it stands

pub bit_6_set : (x : ℕ) → x < 256 → (with_bit6 x / 64 % 2 ≡ 1) × (with_bit6 x / 128 ≡ x / 128) × (with_bit6 x % 64 ≡ x % 64)
bit_6_set x h = (omega arith, omega arith, omega arith)

pub settled_60 : (y : System) (p : Pack) → rate_of y ≡ 0 → settled y p ≡ p
unfolding settled pick
settled_60 y p e = rw (ne_eqb (rate_of y) 1 (λ z. omega (arith, e, z))) refl

pub settled_50 : (y : System) (p : Pack) → rate_of y ≡ 1 → (settled y p).pc1 ≡ with_bit6 p.pc1
unfolding settled
settled_50 y p e = pick_true _ _ (eq-eqb _ 1 e)

-- a time code that the writer takes is settled already
pub settled_set : (y : System) (p : Pack) → (rate_of y ≡ 1 → p.pc1 / 64 % 2 ≡ 1) → settled y p ≡ p
unfolding settled
settled_set y p h =
    by_eq (rate_of y) 1
    (λ e. let same : with_bit6 p.pc1 ≡ p.pc1 = omega (arith, h e) in rw (pick_true (with_bit6 p.pc1) p.pc1 (eq-eqb _ 1 e), same) refl)
    (λ d. rw (pick_false (with_bit6 p.pc1) p.pc1 (ne_eqb _ 1 d)) refl)

-- ---- same_pack: all five bytes

pub same_means : (p o : Pack) → same_pack p o ≡ true → p ≡ o
unfolding same_pack
same_means p o e =
    let a = both_held _ _ e in
    let b = both_held _ _ a.1 in
    let c = both_held _ _ b.1 in
    let d = both_held _ _ c.1 in
    let e0 = eqb-true _ _ a.0 in
    let e1 = eqb-true _ _ b.0 in
    let e2 = eqb-true _ _ c.0 in
    let e3 = eqb-true _ _ d.0 in
    let e4 = eqb-true _ _ d.1 in
    λ i. record { pc0 = e0 i; pc1 = e1 i; pc2 = e2 i; pc3 = e3 i; pc4 = e4 i }

pub same_when : (p o : Pack) → p ≡ o → same_pack p o ≡ true
unfolding same_pack
same_when p o e = rw (e, eq-eqb o.pc0 o.pc0 refl, eq-eqb o.pc1 o.pc1 refl, eq-eqb o.pc2 o.pc2 refl, eq-eqb o.pc3 o.pc3 refl, eq-eqb o.pc4 o.pc4 refl) refl

-- ---- subcode_agrees: every such pack of a sequence, by its position

module _ (y : System) (time group : Pack) (q : ℕ) (part : List ℕ) where
  pub subcode_time : subcode_agrees y time group q part ≡ true → (k : ℕ) → k < 12 → kind_of (is_first y q) k ≡ TimeCode → settled y (ssyb_in k part) ≡ settled y time
  unfolding subcode_agrees pack_agrees
  subcode_time e k hk t = same_means _ _ (rw t at (below_means (λ (j : ℕ). pack_agrees y time group (kind_of (is_first y q) j) (ssyb_in j part)) 12 e k hk))

  pub subcode_group : subcode_agrees y time group q part ≡ true → (k : ℕ) → k < 12 → kind_of (is_first y q) k ≡ BinaryGroup → ssyb_in k part ≡ group
  unfolding subcode_agrees pack_agrees
  subcode_group e k hk g = same_means _ _ (rw g at (below_means (λ (j : ℕ). pack_agrees y time group (kind_of (is_first y q) j) (ssyb_in j part)) 12 e k hk))

  pub subcode_when : ((k : ℕ) → k < 12 → pack_agrees y time group (kind_of (is_first y q) k) (ssyb_in k part) ≡ true) → subcode_agrees y time group q part ≡ true
  unfolding subcode_agrees
  subcode_when h = below_when (λ (j : ℕ). pack_agrees y time group (kind_of (is_first y q) j) (ssyb_in j part)) 12 h

-- ---- time_rows: each number exactly when its row is the first that holds

module _ (y : System) (frame : List ℕ) where
  pub time_23 : every_sequence y frame (unflagged 3) ≡ false → 23 ≡ first_of (time_rows y frame)
  unfolding time_rows first_of pick
  time_23 e = rw e refl

  module _ (unmarked : every_sequence y frame (unflagged 3) ≡ true) where
    pub time_26 : (time_ok y (time_first y frame) && group_ok (group_first y frame)) ≡ false → 26 ≡ first_of (time_rows y frame)
    unfolding time_rows first_of pick
    time_26 e = rw (unmarked, e) refl

    module _ (right : (time_ok y (time_first y frame) && group_ok (group_first y frame)) ≡ true) where
      pub time_27 : every_sequence y frame (subcode_agrees y (time_first y frame) (group_first y frame)) ≡ false → 27 ≡ first_of (time_rows y frame)
      unfolding time_rows first_of pick
      time_27 e = rw (unmarked, right, e) refl

      pub time_0 : every_sequence y frame (subcode_agrees y (time_first y frame) (group_first y frame)) ≡ true → 0 ≡ first_of (time_rows y frame)
      unfolding time_rows first_of pick
      time_0 e = rw (unmarked, right, e) refl

-- ---- time_number

module _ (k : ℕ) (frame : List ℕ) where
  pub time_1 : system_of k ≡ None → 1 ≡ time_number k frame
  unfolding time_number first_of pick
  time_1 e = rw e refl

  module _ (y : System) (known : system_of k ≡ Some y) where
    pub time_2 : eqb (length frame) (48000 * sequences_of y) ≡ false → 2 ≡ time_number k frame
    unfolding time_number first_of pick
    time_2 e = rw (known, e) refl

    module _ (whole : eqb (length frame) (48000 * sequences_of y) ≡ true) where
      all_rows : time_number k frame ≡ first_of (check_rows y frame ++ time_rows y frame)
      unfolding time_number first_of pick
      all_rows = rw (known, whole) refl

      -- the frame check's refusals come first, then the time code's own
      pub time_checked : (first_of (check_rows y frame) ≡ 0 → ⊥) → first_of (check_rows y frame) ≡ time_number k frame
      time_checked d = sym (all_rows ∙ first_stops (check_rows y frame) (time_rows y frame) d)

      pub time_rows_lem : first_of (check_rows y frame) ≡ 0 → first_of (time_rows y frame) ≡ time_number k frame
      time_rows_lem z = sym (all_rows ∙ rows_on y frame (time_rows y frame) z)

    -- 0 says that the frame has its length, and no row holds
    pub time_zero : time_number k frame ≡ 0 → (length frame ≡ 48000 * sequences_of y) × (first_of (check_rows y frame) ≡ 0) × (first_of (time_rows y frame) ≡ 0)
    time_zero z =
        by_bool (eqb (length frame) (48000 * sequences_of y))
        (λ whole.
        by_eq (first_of (check_rows y frame)) 0
        (λ checked. (eqb-true _ _ whole, checked, time_rows_lem whole checked ∙ z))
        (λ d. absurd (d (time_checked whole d ∙ z))))
        (λ e. absurd (omega (arith, z, time_2 e)))

-- ---- read_time

pub read_time_one : (k : ℕ) (frame : List ℕ) → ExactlyOne TimeAnswer (TimeRead k frame)
read_time_one k frame = record { outcome = time_answer k frame; meets = record { answer = refl }; only = λ o m. m.answer }

module _ (k : ℕ) (frame : List ℕ) where
  -- "A refusal answers its number, otherwise zeros"
  pub time_refused_lem : {r : TimeAnswer} → TimeRead k frame r → (time_number k frame ≡ 0 → ⊥) → r ≡ time_refused (time_number k frame)
  unfolding time_answer
  time_refused_lem a d = a.answer ∙ pick_false _ _ (ne_eqb _ 0 d)

  -- the same as the code leaves it
  pub time_stopped : (n : ℕ) (r : TimeAnswer) → n ≡ time_number k frame → (n ≡ 0 → ⊥) → r ≡ time_refused n → TimeRead k frame r
  unfolding time_answer
  time_stopped n r e d er = record { answer = er ∙ rw e refl ∙ sym (pick_false _ _ (ne_eqb _ 0 (λ z. d (e ∙ z)))) }

  module _ (y : System) (known : system_of k ≡ Some y) (zero : time_number k frame ≡ 0) where
    pub time_taken : {r : TimeAnswer} → TimeRead k frame r
        → r ≡ record { number = 0; time = four_bytes (settled y (time_first y frame)); group = four_bytes (group_first y frame) }
    unfolding time_answer time_found
    time_taken a = a.answer ∙ pick_true _ _ (eq-eqb _ 0 zero) ∙ rw known refl

    -- the same as the code leaves it
    pub time_done : (r : TimeAnswer) → r ≡ record { number = 0; time = four_bytes (settled y (time_first y frame)); group = four_bytes (group_first y frame) } → TimeRead k frame r
    unfolding time_answer time_found
    time_done r er = record { answer = er ∙ sym (pick_true _ _ (eq-eqb _ 0 zero) ∙ rw known refl) }
