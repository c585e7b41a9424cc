-- Document 01's own numbers and bytes are those of the definitions. Assumes nothing.
use Rattle.std.specs.Prelude.{Option, Some, None}
use mathlib.Core.Path.{◌≡◌, refl, sym, ap, ◌∙◌, subst}
use mathlib.Core.Bool.{Bool, true, false}
use mathlib.Core.List.{List, [], ◌∷◌}
use Prim.Native.Nat.{ℕ, ◌+◌, ◌*◌, ◌/◌, ◌%◌, ◌≤◌, ◌<◌}
use native.Mathlib.Nat.{mod-eq_of_lt}
use native.Mathlib.Omega.{arith}
use lib.Dec.{eqb, ltb, eqb→eq}
use lib.ListN.{length, get_or, take, drop, get_or-eq_default}
use lib.Seq.{get_or-take, get_or-drop, length-take-le}
use borrow.Author.Tests.{lt-leb, le-leb, ne_eqb}
use Rattle.base.specs.Calls.{first_of}
use Rattle.base.specs.Pick.{pick}
use Rattle.base.specs.Run.{run, tab}
use Rattle.base.proofs.Below.{below_at}
use Rattle.base.proofs.Cases.{by_lt, by_bool, clash}
use Rattle.base.proofs.Parts.{part_part, drop_part}
use Rattle.paper.specs.declared.System.{System}
use Rattle.paper.specs.declared.System.TheVariants.{I60, I50, P60, P50}
use Rattle.paper.specs.declared.Section.{Section}
use Rattle.paper.specs.declared.Entry.{Entry}
use Rattle.rules_format.specs.Systems.{sequences_of, positions_of, counts_of, macroblocks_of, rate_of, stype_of, system_of, number_of_system, in_system}
use Rattle.rules_format.specs.Places.{code_of, place, places, entry_at}
use Rattle.rules_format.specs.Ids.{channel_of, named_by, fsc_of, fsp_of, id_bytes, id_of}
use Rattle.rules_format.specs.Blocks.{start_of, block_at, sequence_at, block_in}
use Rattle.rules_format.specs.Faults.{misnamed, fault_of, fault_at}
use Rattle.paper.specs.Paper.{sequences, positions, fewer, more, macroblocks, rate, stype, byte_at, bytes_at, figure3, section_at, number_at, channel_by}
use Rattle.paper.specs.Paper.{channel_bits, fault, is_one_of, holds_time, holds_group}
use Rattle.rules_format.proofs.Systems.{system_above}
use Rattle.rules_format.proofs.Places.{code_section, entry_past}
use Rattle.rules_format.proofs.Blocks.{block_in_sequence}
use Rattle.rules_format.proofs.Ids.{read_id_11, read_id_0}

-- ---- the table of systems

-- system y in the table's row k
pub record Columns (k : ℕ) (y : System) : Type 0 where
  pub sequences_is : sequences k ≡ sequences_of y
  pub positions_is : positions k ≡ positions_of y
  pub fewer_is : fewer k ≡ (counts_of y).fewer
  pub more_is : more k ≡ (counts_of y).more
  pub macroblocks_is : macroblocks k ≡ macroblocks_of y
  pub rate_is : rate k ≡ rate_of y
  pub stype_is : stype k ≡ stype_of y

columns_at : (y : System) → Columns (number_of_system y) y
columns_at I60 = record { sequences_is = refl; positions_is = refl; fewer_is = refl; more_is = refl; macroblocks_is = refl; rate_is = refl; stype_is = refl }
columns_at I50 = record { sequences_is = refl; positions_is = refl; fewer_is = refl; more_is = refl; macroblocks_is = refl; rate_is = refl; stype_is = refl }
columns_at P60 = record { sequences_is = refl; positions_is = refl; fewer_is = refl; more_is = refl; macroblocks_is = refl; rate_is = refl; stype_is = refl }
columns_at P50 = record { sequences_is = refl; positions_is = refl; fewer_is = refl; more_is = refl; macroblocks_is = refl; rate_is = refl; stype_is = refl }

-- the number that a system's number says; 4 where it says none
abbrev said : Option System → ℕ
said = in_system 4 number_of_system

said_below : (k : ℕ) → k < 4 → said (system_of k) ≡ k
unfolding system_of pick
said_below k h = eqb→eq _ _ (below_at (λ j. eqb (said (system_of j)) j) 4 tt k h)

number_below : (y : System) → number_of_system y < 4
number_below I60 = omega arith
number_below I50 = omega arith
number_below P60 = omega arith
number_below P50 = omega arith

-- a number above 3 says none, any other its row
pub known_below : (k : ℕ) (y : System) → system_of k ≡ Some y → k < 4
known_below k y e = by_lt k 4 (λ l. l) (λ g. absurd (omega (arith, number_below y, ap said (sym (system_above k (omega arith)) ∙ e))))

pub number_known : (k : ℕ) (y : System) → system_of k ≡ Some y → k ≡ number_of_system y
number_known k y e = sym (said_below k (known_below k y e)) ∙ ap said e

pub none_above : (k : ℕ) → system_of k ≡ None → 3 < k
none_above k e = by_lt k 4 (λ l. absurd (omega (arith, said_below k l, ap said e))) (λ g. g)

pub columns : (k : ℕ) (y : System) → system_of k ≡ Some y → Columns k y
columns k y e = subst (λ (j : ℕ). Columns j y) (sym (number_known k y e)) (columns_at y)

-- a number says none, or a system
pub by_system : {P : Type 0} (k : ℕ) → (system_of k ≡ None → P) → ((y : System) → system_of k ≡ Some y → P) → P
by_system {P} k none some = by_number (system_of k) refl
  where
    by_number : (s : Option System) → system_of k ≡ s → P
    by_number (Some y) e = some y e
    by_number None e = none e

-- and each of 0 to 3 says one
pub known_system : {P : Type 0} (k : ℕ) → k < 4 → ((y : System) → system_of k ≡ Some y → P) → P
known_system k h f = by_system k (λ e. absurd (omega (arith, h, none_above k e))) f

-- ---- figure 3

same_section : ℕ → Bool
same_section p = eqb (code_of (entry_at (place p)).section) (section_at p)

same_number : ℕ → Bool
same_number p = eqb (entry_at (place p)).number.0 (number_at p)

-- past the 150 places H0 stands in
figure_past : (p : ℕ) → 150 ≤ p → get_or figure3 p (0, 0) ≡ (0, 0)
unfolding figure3
figure_past p g = get_or-eq_default figure3 (0, 0) g

module _ (p : ℕ) where
  section_within : p < 150 → code_of (entry_at (place p)).section ≡ section_at p
  unfolding same_section entry_at places run tab figure3
  section_within h = eqb→eq _ _ (below_at same_section 150 tt p h)

  number_within : p < 150 → (entry_at (place p)).number.0 ≡ number_at p
  unfolding same_number entry_at places run tab figure3
  number_within h = eqb→eq _ _ (below_at same_number 150 tt p h)

  pub figure_section : code_of (entry_at (place p)).section ≡ section_at p
  figure_section =
      by_lt p 150 section_within
      (λ g. ap (λ (e : Entry). code_of e.section) (entry_past p g) ∙ sym (ap (λ (x : ℕ × ℕ). x.0) (figure_past p g)))

  pub figure_number : (entry_at (place p)).number.0 ≡ number_at p
  figure_number =
      by_lt p 150 number_within
      (λ g. ap (λ (e : Entry). e.number.0) (entry_past p g) ∙ sym (ap (λ (x : ℕ × ℕ). x.1) (figure_past p g)))

-- ---- channel_by, channel_bits: "(FSC, FSP) = (0,1), (1,1), (0,0), (1,0) is channel 0, 1, 2, 3"

channel_pair : (w : ℕ) → w < 4 → channel_of (w / 2) (w % 2) ≡ channel_by w
unfolding channel_of pick
channel_pair w h = eqb→eq _ _ (below_at (λ j. eqb (channel_of (j / 2) (j % 2)) (channel_by j)) 4 tt w h)

pub channel_by_lem : (x : ℕ) → channel_of (x / 8 % 2) (x / 4 % 2) ≡ channel_by (x / 4 % 4)
channel_by_lem x =
    let c : x / 8 % 2 ≡ x / 4 % 4 / 2 = omega arith in
    let p : x / 4 % 2 ≡ x / 4 % 4 % 2 = omega arith in
    rw (c, p) (channel_pair (x / 4 % 4) (omega arith))

pub bits_channel : (h : ℕ) → h < 4 → 2 * fsc_of h + fsp_of h ≡ channel_bits h
bits_channel h l = eqb→eq _ _ (below_at (λ j. eqb (2 * fsc_of j + fsp_of j) (channel_bits j)) 4 tt h l)

-- ---- id_bytes

pub id_is : (s : Section) (h q d : ℕ) → h < 4 → q < 16 → d < 256 → id_bytes (id_of h q s d) ≡ (32 * code_of s + 31) ∷ (16 * q + 4 * channel_bits h + 3) ∷ d ∷ []
unfolding id_bytes
id_is s h q d hh hq hd =
    let a : code_of s * 32 + 31 ≡ 32 * code_of s + 31 = omega arith in
    let b : q % 16 * 16 + fsc_of h * 8 + fsp_of h * 4 + 3 ≡ 16 * q + 4 * channel_bits h + 3 = omega (arith, bits_channel h hh, mod-eq_of_lt hq) in
    λ i. a i ∷ b i ∷ mod-eq_of_lt hd i ∷ []

-- ---- fault

module _ (bytes : List ℕ) (h q p : ℕ) (long : 3 ≤ length bytes) where
  pub fault_is : fault_at bytes h q p ≡ fault (get_or bytes 0 0) (get_or bytes 1 0) (get_or bytes 2 0) h q p
  unfolding fault_at fault_of misnamed named_by fault first_of pick
  fault_is =
      let three = length-take-le 3 bytes long in
      let b0 = get_or-take 3 bytes 0 0 (omega arith) in
      let b1 = get_or-take 3 bytes 1 0 (omega arith) in
      let b2 = get_or-take 3 bytes 2 0 (omega arith) in
      by_lt (get_or bytes 0 0 / 32) 5
      (λ l.
      rw (read_id_0 (take 3 bytes) three (rw b0 l), b0, b1, b2, lt-leb _ _ l, code_section (get_or bytes 0 0 / 32) l, channel_by_lem (get_or bytes 1 0), figure_section p, figure_number p) refl)
      (λ g. rw (read_id_11 (take 3 bytes) three (rw b0 g), le-leb _ _ g) refl)

-- "Other bits are .. ignored on reading": bits 7-5 of byte 0, bits 7-2 of byte 1 and byte 2 decide, wherever the block stands
pub fault_spare : (a0 a1 b0 b1 x h q p : ℕ) → a0 / 32 ≡ b0 / 32 → a1 / 4 ≡ b1 / 4 → fault a0 a1 x h q p ≡ fault b0 b1 x h q p
unfolding fault
fault_spare a0 a1 b0 b1 x h q p s c =
    let channel : a1 / 4 % 4 ≡ b1 / 4 % 4 = ap (λ (w : ℕ). w % 4) c in
    let dseq : a1 / 16 ≡ b1 / 16 = omega (arith, c) in
    rw (s, channel, dseq) refl

pub fault_judged : (a b : List ℕ) (h q p : ℕ) → 3 ≤ length a → 3 ≤ length b → get_or a 0 0 / 32 ≡ get_or b 0 0 / 32 → get_or a 1 0 / 4 ≡ get_or b 1 0 / 4
    → get_or a 2 0 ≡ get_or b 2 0 → fault_at a h q p ≡ fault_at b h q p
fault_judged a b h q p la lb s c n =
    fault_is a h q p la ∙ rw n (fault_spare (get_or a 0 0) (get_or a 1 0) (get_or b 0 0) (get_or b 1 0) (get_or b 2 0) h q p s c) ∙ sym (fault_is b h q p lb)

-- ---- byte_at, bytes_at

module _ (y : System) (f : List ℕ) (h q p i : ℕ) (hi : i < 80) where
  pub byte_at_lem : get_or (block_at y f h q p) i 0 ≡ byte_at (sequences_of y) f h q p i
  unfolding block_at
  byte_at_lem = get_or-take 80 (drop (start_of y h q p) f) i 0 hi ∙ get_or-drop (start_of y h q p) f i 0

  pub byte_in : p < 150 → get_or (block_in (sequence_at y f h q) p) i 0 ≡ byte_at (sequences_of y) f h q p i
  byte_in hp = ap (λ (b : List ℕ). get_or b i 0) (block_in_sequence y f h q p hp) ∙ byte_at_lem

module _ (y : System) (f : List ℕ) (h q p : ℕ) where
  pub bytes_at_lem : (i m : ℕ) → i + m ≤ 80 → take m (drop i (block_at y f h q p)) ≡ bytes_at (sequences_of y) f h q p i m
  unfolding block_at
  bytes_at_lem i m hi = part_part (start_of y h q p) 80 i m f hi

  -- the whole block, and what is behind its ID
  pub block_bytes : block_at y f h q p ≡ bytes_at (sequences_of y) f h q p 0 80
  unfolding block_at
  block_bytes = let e : start_of y h q p ≡ start_of y h q p + 0 = omega arith in ap (λ (a : ℕ). take 80 (drop a f)) e

  pub rest_bytes : drop 3 (block_at y f h q p) ≡ bytes_at (sequences_of y) f h q p 3 77
  unfolding block_at
  rest_bytes = drop_part (start_of y h q p) 3 77 f

-- ---- holds_time, holds_group: an SSYB that holds a pack is one of the twelve

one_below : (j : ℕ) → 12 ≤ j → (is_one_of (3 ∷ 5 ∷ 9 ∷ 11 ∷ []) j ≡ false) × (is_one_of (3 ∷ 9 ∷ []) j ≡ false) × (is_one_of (4 ∷ 10 ∷ []) j ≡ false)
one_below j h =
    let other : (x : ℕ) → x < 12 → eqb j x ≡ false = λ x l. ne_eqb j x (λ e. omega arith) in (
      rw (other 3 (omega arith), other 5 (omega arith), other 9 (omega arith), other 11 (omega arith)) refl,
      rw (other 3 (omega arith), other 9 (omega arith)) refl,
      rw (other 4 (omega arith), other 10 (omega arith)) refl,
    )

module _ (n q j : ℕ) where
  pub time_below : holds_time n q j ≡ true → j < 12
  unfolding holds_time pick
  time_below e =
      by_lt j 12 (λ l. l)
      (λ g. by_bool (ltb q (n / 2)) (λ t. absurd (clash (rw t at e) (one_below j g).0)) (λ t. absurd (clash (rw t at e) (one_below j g).1)))

  pub group_below : holds_group n q j ≡ true → j < 12
  unfolding holds_group pick
  group_below e =
      by_lt j 12 (λ l. l)
      (λ g. by_bool (ltb q (n / 2)) (λ t. absurd (clash (rw t at e) (one_below j g).2)) (λ t. absurd (clash (rw t at e) refl)))
