-- Laws of the subcode blocks. Assumes nothing.
use mathlib.Core.Path.{◌≡◌, refl, ◌∙◌}
use mathlib.Core.Bool.{Bool, true, false, ◌||◌, not}
use mathlib.Core.List.{List, ◌++◌}
use Prim.Native.Nat.{ℕ, ◌+◌, ◌*◌, ◌/◌, ◌%◌, ◌≤◌, ◌<◌}
use native.Mathlib.Omega.{arith}
use lib.Dec.{T, eqb}
use lib.ListN.{length, drop, get_or, replicate, length-append, get_or-eq_default}
use lib.Seq.{drop_at}
use borrow.Author.Tests.{ne_eqb, lt-ltb, ltb-true}
use Rattle.base.specs.Pick.{pick}
use Rattle.base.specs.Run.{run, tab, Wide}
use Rattle.base.proofs.Cases.{by_lt}
use Rattle.base.proofs.Below.{below_at}
use Rattle.base.proofs.Runs.{length_run}
use Rattle.paper.specs.declared.System.{System}
use Rattle.paper.specs.declared.SubcodeData.{SubcodeData}
use Rattle.paper.specs.declared.SubcodePack.{SubcodePack}
use Rattle.paper.specs.declared.SubcodePack.TheVariants.{TimeCode, BinaryGroup, NoPack}
use Rattle.rules_format.specs.Systems.{sequences_of, half_of}
use Rattle.rules_packs.specs.Subcode.{is_first, kind_of, subcode_pack, ssyb, ssybs, subcode_bytes, ssyb_pack}
use Rattle.rules_format.proofs.Systems.{half_twice}
use Rattle.rules_packs.proofs.Packs.{part_pack}

-- ---- is_first: "the first n/2 sequences"

pub first_means : (y : System) (q : ℕ) → is_first y q ≡ true → 2 * q < sequences_of y
first_means y q e = omega (arith, half_twice y, ltb-true q (half_of y) e)

pub first_when : (y : System) (q : ℕ) → 2 * q < sequences_of y → is_first y q ≡ true
first_when y q h = lt-ltb q (half_of y) (omega (arith, half_twice y))

-- ---- kind_of

abbrev pub is_time : SubcodePack → Bool
is_time TimeCode = true
is_time BinaryGroup = false
is_time NoPack = false

abbrev pub is_group : SubcodePack → Bool
is_group TimeCode = false
is_group BinaryGroup = true
is_group NoPack = false

-- "First half: time code in 3, 5, 9, 11, binary group in 4, 10. Second half: time code in 3, 9."
pub record Positions (k : ℕ) : Type 0 where
  pub first_time : is_time (kind_of true k) ≡ (eqb k 3 || eqb k 5 || eqb k 9 || eqb k 11)
  pub first_group : is_group (kind_of true k) ≡ (eqb k 4 || eqb k 10)
  pub second_time : is_time (kind_of false k) ≡ (eqb k 3 || eqb k 9)
  pub second_group : is_group (kind_of false k) ≡ false

unfoldable pub agree : Bool → Bool → Bool
agree true b = b
agree false b = not b

pub agree_same : (a b : Bool) → T (agree a b) → a ≡ b
unfolding agree
agree_same true true t = refl
agree_same false false t = refl
agree_same true false t = absurd t
agree_same false true t = absurd t

pub kind_positions : (k : ℕ) → k < 12 → Positions k
unfolding kind_of agree
kind_positions k h = record {
  first_time = agree_same _ _ (below_at (λ i. agree (is_time (kind_of true i)) (eqb i 3 || eqb i 5 || eqb i 9 || eqb i 11)) 12 tt k h);
  first_group = agree_same _ _ (below_at (λ i. agree (is_group (kind_of true i)) (eqb i 4 || eqb i 10)) 12 tt k h);
  second_time = agree_same _ _ (below_at (λ i. agree (is_time (kind_of false i)) (eqb i 3 || eqb i 9)) 12 tt k h);
  second_group = agree_same _ _ (below_at (λ i. agree (is_group (kind_of false i)) false) 12 tt k h);
}

-- elsewhere there is none
neither_none : (kind : SubcodePack) → is_time kind ≡ false → is_group kind ≡ false → kind ≡ NoPack
neither_none TimeCode e d = let z : ◌≡◌ {A = ℕ} 0 1 = cc in absurd (omega arith)
neither_none BinaryGroup e d = let z : ◌≡◌ {A = ℕ} 0 1 = cc in absurd (omega arith)
neither_none NoPack e d = refl

pub kind_past : (first : Bool) (k : ℕ) → 12 ≤ k → kind_of first k ≡ NoPack
unfolding kind_of run tab
kind_past true k h = get_or-eq_default (tab (kind_of true) 12) NoPack h
kind_past false k h = get_or-eq_default (tab (kind_of false) 12) NoPack h

pub kind_none_first : (k : ℕ) → (k ≡ 3 → ⊥) → (k ≡ 4 → ⊥) → (k ≡ 5 → ⊥) → (k ≡ 9 → ⊥) → (k ≡ 10 → ⊥) → (k ≡ 11 → ⊥) → kind_of true k ≡ NoPack
kind_none_first k d3 d4 d5 d9 d10 d11 =
    by_lt k 12
    (λ h.
    neither_none (kind_of true k)
    ((kind_positions k h).first_time ∙ rw (ne_eqb k 3 d3, ne_eqb k 5 d5, ne_eqb k 9 d9) (ne_eqb k 11 d11))
    ((kind_positions k h).first_group ∙ rw (ne_eqb k 4 d4) (ne_eqb k 10 d10)))
    (λ h. kind_past true k h)

pub kind_none_second : (k : ℕ) → (k ≡ 3 → ⊥) → (k ≡ 9 → ⊥) → kind_of false k ≡ NoPack
kind_none_second k d3 d9 =
    by_lt k 12
    (λ h. neither_none (kind_of false k) ((kind_positions k h).second_time ∙ rw (ne_eqb k 3 d3) (ne_eqb k 9 d9)) (kind_positions k h).second_group)
    (λ h. kind_past false k h)

-- ---- ssyb, subcode_bytes

module _ (said : SubcodeData) (k : ℕ) where
  -- "bit 7 FR: 1 in the first n/2 sequences"
  pub fr_first : get_or (ssyb true said k) 0 0 / 128 ≡ 1
  unfolding ssyb pick
  fr_first = refl

  pub fr_second : get_or (ssyb false said k) 0 0 / 128 ≡ 0
  unfolding ssyb pick
  fr_second = refl

  -- "low nibble the SSYB number"
  pub ssyb_number : (first : Bool) → k < 16 → get_or (ssyb first said k) 1 0 % 16 ≡ k
  unfolding ssyb
  ssyb_number first h = omega arith

  pub ssyb_length : (first : Bool) → length (ssyb first said k) ≡ 8
  unfolding ssyb
  ssyb_length first = refl

module _ (first : Bool) (said : SubcodeData) (k : ℕ) where
  abbrev six : ℕ → List ℕ
  six j = ssyb first said (6 * k + j)

  six_wide : Wide 8 six
  six_wide j = ssyb_length said (6 * k + j) first

  pub subcode_length : length (subcode_bytes first said k) ≡ 77
  unfolding subcode_bytes ssybs
  subcode_length = length-append (run six 6) (replicate 29 0xFF) ∙ rw (length_run 8 six six_wide 6) refl

  pub subcode_rest : drop 48 (subcode_bytes first said k) ≡ replicate 29 0xFF
  unfolding subcode_bytes ssybs
  subcode_rest = drop_at (run six 6) (replicate 29 0xFF) 48 (length_run 8 six six_wide 6)

  -- "SSYB 0-5 in SC0, 6-11 in SC1, eight bytes each from byte 3", the pack in its last five
  pub subcode_pack_lem : (id : List ℕ) (j : ℕ) → length id ≡ 3 → j < 6
      → ssyb_pack (id ++ subcode_bytes first said k) j ≡ subcode_pack (kind_of first (6 * k + j)) said.time said.group
  unfolding subcode_bytes ssybs ssyb
  subcode_pack_lem id j three h = part_pack id (replicate 29 0xFF) 8 six six_wide 6 j three h 3 (6 + 8 * j) (omega arith) (omega arith)
