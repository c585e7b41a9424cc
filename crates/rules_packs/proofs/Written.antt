-- What is written in the blocks is what document 01 lays down there, byte by byte. Assumes nothing.
use Rattle.std.specs.Prelude.{Some}
use mathlib.Core.Path.{◌≡◌, refl, sym, ap, ap₂, ◌∙◌}
use mathlib.Core.Bool.{Bool, true, false}
use mathlib.Core.List.{List, [], ◌∷◌}
use Prim.Native.Nat.{ℕ, ◌+◌, ◌-◌, ◌*◌, ◌/◌, ◌≤◌, ◌<◌}
use native.Mathlib.Nat.{div-eq_of_lt, mul-add-div}
use native.Mathlib.Omega.{arith}
use lib.Dec.{eqb, ltb}
use lib.ListN.{replicate, get_or, length}
use borrow.Author.Tests.{lt-ltb, le-ltb}
use Rattle.base.specs.Pick.{pick}
use Rattle.base.proofs.Cases.{by_lt, by_bool}
use Rattle.base.proofs.Picks.{pick_true, pick_false}
use Rattle.paper.specs.declared.System.{System}
use Rattle.paper.specs.declared.Pack.{Pack}
use Rattle.paper.specs.declared.SubcodePack.{SubcodePack}
use Rattle.paper.specs.declared.SubcodePack.TheVariants.{TimeCode, BinaryGroup, NoPack}
use Rattle.rules_format.specs.Systems.{sequences_of, half_of, rate_of, stype_of, system_of}
use Rattle.rules_packs.specs.Packs.{pack_bytes, no_pack, pair_at}
use Rattle.rules_packs.specs.Header.{header_bytes, rate_byte}
use Rattle.rules_packs.specs.Subcode.{is_first, kind_of, subcode_pack, ssyb, fr_byte}
use Rattle.rules_packs.specs.Vaux
use Rattle.rules_packs.specs.Vaux.{vs_at, vsc_pack, vaux_pack}
use Rattle.rules_packs.specs.Aaux
use Rattle.rules_packs.specs.Aaux.{as_at, size_of, asc_pack, mode_of, aaux_pack}
use Rattle.rules_format.specs.Sound.{audio_at}
use Rattle.paper.specs.Paper.{sequences, rate, stype, as_pack, vs_pack, is_one_of, holds_time, holds_group}
use Rattle.paper.specs.Bytes.{half_in, header_form, subcode_form, ssyb_form, vaux_form, aaux_form, size_form}
use Rattle.rules_format.proofs.Systems.{half_cases, half_twice}
use Rattle.rules_format.proofs.Sound.{half_some}
use Rattle.rules_packs.proofs.Subcode.{is_time, is_group, agree, agree_same}
use Rattle.rules_format.proofs.Paper.{Columns, columns}
use Rattle.base.proofs.Below.{below_at}
use Rattle.rules_packs.specs.TimeCode.{time_pack, group_pack}
use Rattle.rules_packs.specs.Repeated.{subcode_of}
use lib.Seq.{take_all}
use Rattle.base.specs.Run.{run, tab}
use Rattle.base.proofs.Runs.{tab_part}

-- ---- pack_bytes: those that a pack was made of

pub four_again : (bytes : List ℕ) → length bytes ≡ 4 → get_or bytes 0 0 ∷ get_or bytes 1 0 ∷ get_or bytes 2 0 ∷ get_or bytes 3 0 ∷ [] ≡ bytes
unfolding tab run
four_again bytes e = tab_part 0 bytes 0 4 (omega (arith, e)) ∙ take_all 4 bytes (omega (arith, e))

-- ---- is_first, kind_of

first_time : (j : ℕ) → j < 12 → is_one_of (3 ∷ 5 ∷ 9 ∷ 11 ∷ []) j ≡ is_time (kind_of true j)
unfolding kind_of agree
first_time j h = agree_same _ _ (below_at (λ i. agree (is_one_of (3 ∷ 5 ∷ 9 ∷ 11 ∷ []) i) (is_time (kind_of true i))) 12 tt j h)

second_time : (j : ℕ) → j < 12 → is_one_of (3 ∷ 9 ∷ []) j ≡ is_time (kind_of false j)
unfolding kind_of agree
second_time j h = agree_same _ _ (below_at (λ i. agree (is_one_of (3 ∷ 9 ∷ []) i) (is_time (kind_of false i))) 12 tt j h)

first_group : (j : ℕ) → j < 12 → is_one_of (4 ∷ 10 ∷ []) j ≡ is_group (kind_of true j)
unfolding kind_of agree
first_group j h = agree_same _ _ (below_at (λ i. agree (is_one_of (4 ∷ 10 ∷ []) i) (is_group (kind_of true i))) 12 tt j h)

second_group : (j : ℕ) → j < 12 → false ≡ is_group (kind_of false j)
unfolding kind_of agree
second_group j h = agree_same _ _ (below_at (λ i. agree false (is_group (kind_of false i))) 12 tt j h)

pub is_time_lem : (kind : SubcodePack) → is_time kind ≡ true → kind ≡ TimeCode
is_time_lem TimeCode e = refl
is_time_lem BinaryGroup e = let z : ◌≡◌ {A = ℕ} 0 1 = cc in absurd (omega arith)
is_time_lem NoPack e = let z : ◌≡◌ {A = ℕ} 0 1 = cc in absurd (omega arith)

pub is_group_lem : (kind : SubcodePack) → is_group kind ≡ true → kind ≡ BinaryGroup
is_group_lem BinaryGroup e = refl
is_group_lem TimeCode e = let z : ◌≡◌ {A = ℕ} 0 1 = cc in absurd (omega arith)
is_group_lem NoPack e = let z : ◌≡◌ {A = ℕ} 0 1 = cc in absurd (omega arith)

module _ (k : ℕ) (y : System) (known : system_of k ≡ Some y) (q : ℕ) where
  -- "the first n/2 sequences"
  pub half_first : ltb q (sequences k / 2) ≡ is_first y q
  unfolding half_of
  half_first = ap (λ (n : ℕ). ltb q (n / 2)) (columns k y known).sequences_is

  module _ (j : ℕ) where
    pub holds_time_lem : j < 12 → holds_time (sequences k) q j ≡ is_time (kind_of (is_first y q) j)
    unfolding holds_time pick
    holds_time_lem l = rw half_first (by_bool (is_first y q) (λ e. rw e (first_time j l)) (λ e. rw e (second_time j l)))

    pub holds_group_lem : j < 12 → holds_group (sequences k) q j ≡ is_group (kind_of (is_first y q) j)
    unfolding holds_group pick
    holds_group_lem l = rw half_first (by_bool (is_first y q) (λ e. rw e (first_group j l)) (λ e. rw e (second_group j l)))

-- ---- pack_bytes

-- a source pack, its control pack, or none
packs_form : (source control : Bool) (p o : Pack) {bytes : List ℕ} → bytes ≡ pack_bytes p
    → pick source bytes (pick control (pack_bytes o) (pack_bytes no_pack)) ≡ pack_bytes (pick source p (pick control o no_pack))
unfolding pick
packs_form true control p o e = e
packs_form false true p o e = refl
packs_form false false p o e = refl

-- the pack of an SSYB by what it holds
pack_form : (kind : SubcodePack) (time group : Pack)
    → pick (is_time kind) (pack_bytes time) (pick (is_group kind) (pack_bytes group) (replicate 5 0xFF)) ≡ pack_bytes (subcode_pack kind time group)
unfolding pick
pack_form TimeCode time group = refl
pack_form BinaryGroup time group = refl
pack_form NoPack time group = refl

-- ---- by the system

fr_form : (first : Bool) → 0xFF - 0x80 * pick first 0 1 ≡ fr_byte first
unfolding pick
fr_form true = refl
fr_form false = refl

second_half : (s q : ℕ) → 0 < s → s ≤ q → q < 2 * s → q / s ≡ 1
second_half s q some g l =
    let e : q ≡ s * 1 + (q - s) = omega arith in
    let rest : q - s < s = omega arith in
    ap (λ (x : ℕ). x / s) e ∙ mul-add-div some 1 (q - s) ∙ omega (arith, div-eq_of_lt rest)

module _ (k : ℕ) (y : System) (known : system_of k ≡ Some y) where
  abbrev is : Columns k y
  is = columns k y known

  pub header_form_lem : header_form k ≡ header_bytes y
  unfolding header_form header_bytes
  header_form_lem =
      let a : 0x80 * rate k + 0x3F ≡ rate_byte y = omega (arith, is.rate_is) in
      λ i. a i ∷ 0xFF ∷ 0x7F ∷ 0x7F ∷ 0x7F ∷ replicate 72 0xFF

  -- ---- VAUX

  vs_form : 0x60 ∷ 0xFF ∷ 0xFF ∷ (0xC0 + 0x20 * rate k + stype k) ∷ 0xFF ∷ [] ≡ pack_bytes (Vaux.vs_pack y)
  vs_form =
      let a : 0xC0 + 0x20 * rate k + stype k ≡ 0xC0 + rate_of y * 0x20 + stype_of y = omega (arith, is.rate_is, is.stype_is) in
      λ i. 0x60 ∷ 0xFF ∷ 0xFF ∷ a i ∷ 0xFF ∷ []

  pub vaux_form_lem : (q j : ℕ) → vaux_form k q j ≡ pack_bytes (vaux_pack (Vaux.vs_pack y) vsc_pack q j)
  unfolding vaux_form pair_at vs_pack vs_at
  vaux_form_lem q j = packs_form (eqb j (vs_at q)) (eqb j (vs_at q + 1)) (Vaux.vs_pack y) vsc_pack vs_form

  -- ---- subcode

  -- the pack of a header and four bytes
  module _ (time group : List ℕ) (et : pack_bytes (time_pack time) ≡ 0x13 ∷ time) (eg : pack_bytes (group_pack group) ≡ 0x14 ∷ group) (q j : ℕ) (hj : j < 12) where
    subcode_form_lem : subcode_form k time group q j ≡ pack_bytes (subcode_pack (kind_of (is_first y q) j) (time_pack time) (group_pack group))
    unfolding subcode_form
    subcode_form_lem =
        ap₂ (λ (a b : List ℕ). pick (holds_time (sequences k) q j) a (pick (holds_group (sequences k) q j) b (replicate 5 0xFF))) (sym et) (sym eg)
        ∙ rw (holds_time_lem k y known q j hj, holds_group_lem k y known q j hj) (pack_form (kind_of (is_first y q) j) (time_pack time) (group_pack group))

    ssyb_four : ssyb_form k time group q j ≡ ssyb (is_first y q) (subcode_of time group) j
    unfolding ssyb_form ssyb
    ssyb_four =
        let a : 0xFF - 0x80 * half_in k q ≡ fr_byte (is_first y q) = ap (λ (first : Bool). 0xFF - 0x80 * pick first 0 1) (half_first k y known q) ∙ fr_form (is_first y q) in
        λ i. a i ∷ (0xF0 + j) ∷ 0xFF ∷ subcode_form_lem i

  pub ssyb_form_lem : (time group : List ℕ) → length time ≡ 4 → length group ≡ 4 → (q j : ℕ) → j < 12
      → ssyb_form k time group q j ≡ ssyb (is_first y q) (subcode_of time group) j
  ssyb_form_lem time group four four' = ssyb_four time group (ap (λ (b : List ℕ). 0x13 ∷ b) (four_again time four)) (ap (λ (b : List ℕ). 0x14 ∷ b) (four_again group four'))

  -- ---- AAUX

  -- "mode .. (0 for channels 1, 3, 5, 7; 1 for 2, 4, 6, 8 ..)": odd channels lie in the first half
  mode_form : (h q : ℕ) → q < sequences_of y → half_in k q ≡ mode_of (audio_at (half_of y) h q)
  mode_form h q hq =
      by_lt q (half_of y)
      (λ l. pick_true 0 1 (half_first k y known q ∙ lt-ltb q (half_of y) l) ∙ omega (arith, div-eq_of_lt l))
      (λ g.
      pick_false 0 1 (half_first k y known q ∙ le-ltb q (half_of y) g)
      ∙ omega (arith, second_half (half_of y) q (half_some (half_of y) (half_cases y)) g (omega (arith, half_twice y))))

  size_form_lem : (count : ℕ) → size_form count ≡ 0x40 + size_of count
  unfolding size_form size_of
  size_form_lem count = refl

  module _ (count h q : ℕ) (hq : q < sequences_of y) where
    as_form : 0x50 ∷ size_form count ∷ (0x10 + half_in k q) ∷ (0xC3 + 0x20 * rate k) ∷ 0xC0 ∷ [] ≡ pack_bytes (Aaux.as_pack y count (audio_at (half_of y) h q))
    unfolding Aaux.as_pack
    as_form =
        let m = mode_form h q hq in
        let r : 0xC3 + 0x20 * rate k ≡ 0xC3 + rate_of y * 0x20 = omega (arith, is.rate_is) in
        λ i. 0x50 ∷ size_form_lem count i ∷ (0x10 + m i) ∷ r i ∷ 0xC0 ∷ []

    pub aaux_form_lem : (a : ℕ) → aaux_form k (size_form count) q a ≡ pack_bytes (aaux_pack (Aaux.as_pack y count (audio_at (half_of y) h q)) asc_pack q a)
    unfolding aaux_form pair_at as_pack as_at
    aaux_form_lem a = packs_form (eqb a (as_at q)) (eqb a (as_at q + 1)) (Aaux.as_pack y count (audio_at (half_of y) h q)) asc_pack as_form
