-- Laws of block IDs. Assumes nothing.
use mathlib.Core.Path.{◌≡◌, refl, ◌∙◌}
use mathlib.Core.Bool.{true, false, Bool}
use mathlib.Core.List.{List}
use Prim.Native.Nat.{ℕ, ◌+◌, ◌*◌, ◌/◌, ◌≤◌, ◌<◌, ◌%◌}
use native.Mathlib.Omega.{arith}
use lib.Dec.{eqb, ltb, eqb→eq}
use lib.ListN.{length, get_or}
use borrow.Author.Tests.{eq-eqb, ne_eqb, lt-ltb, le-ltb}
use Rattle.base.specs.Pick.{pick}
use Rattle.base.proofs.Picks.{pick_true, pick_false}
use Rattle.paper.specs.declared.IdAnswer.TheVariants.{Named, Reserved, WrongLength}
use Rattle.rules_format.specs.Places.{code_of}
use Rattle.rules_format.specs.Ids.{section_bits, channel_of, named_by, spare_in, id_answer, fsc_of, fsp_of, byte0_of, byte1_of, byte2_of, id_bytes}
use Rattle.rules_format.proofs.Places.{section_code, code_below}
use native.Mathlib.Nat.{mod-eq_of_lt}
use Rattle.base.proofs.Below.{below_at}
use Rattle.paper.specs.declared.BlockId.{BlockId}

-- ---- channel_of

-- "(FSC, FSP) = (0,1), (1,1), (0,0), (1,0) is channel 0, 1, 2, 3"
pub channel_pairs : (channel_of 0 1 ≡ 0) × (channel_of 1 1 ≡ 1) × (channel_of 0 0 ≡ 2) × (channel_of 1 0 ≡ 3)
unfolding channel_of pick
channel_pairs = (refl, refl, refl, refl)

pub channel_bits : (h : ℕ) → h < 4 → channel_of (fsc_of h) (fsp_of h) ≡ h
unfolding channel_of pick
channel_bits h l = eqb→eq _ _ (below_at (λ k. eqb (channel_of (fsc_of k) (fsp_of k)) k) 4 tt h l)

-- ---- spare_in

pub spare_bits : (id : List ℕ) → spare_in id ≡ record { arbitrary = get_or id 0 0 % 16; reserved = get_or id 0 0 / 16 % 2 * 4 + get_or id 1 0 % 4 }
unfolding spare_in
spare_bits id = refl

-- ---- id_answer

-- three bytes have an answer
pub answer_long : (id : List ℕ) → length id ≡ 3 → id_answer id ≡ WrongLength → ⊥
unfolding id_answer pick
answer_long id e w = three (ltb (section_bits id) 5) (rw (eq-eqb _ _ e) at w)
  where
    three : (b : Bool) → pick b (Named (named_by id) (spare_in id)) Reserved ≡ WrongLength → ⊥
    three true z = let q : ◌≡◌ {A = ℕ} 0 1 = cc in omega arith
    three false z = let q : ◌≡◌ {A = ℕ} 0 1 = cc in omega arith

-- ---- id_bytes

-- the fields of the second byte, where FSC and FSP are bits
module _ (q fsc fsp : ℕ) (hq : q < 16) (hc : fsc < 2) (hp : fsp < 2) where
  second_dseq : (q % 16 * 16 + fsc * 8 + fsp * 4 + 3) / 16 ≡ q
  second_dseq = omega (arith, mod-eq_of_lt hq)

  second_fsc : (q % 16 * 16 + fsc * 8 + fsp * 4 + 3) / 8 % 2 ≡ fsc
  second_fsc = omega (arith, mod-eq_of_lt hq)

  second_fsp : (q % 16 * 16 + fsc * 8 + fsp * 4 + 3) / 4 % 2 ≡ fsp
  second_fsp = omega (arith, mod-eq_of_lt hq)

  pub second_judged : (q % 16 * 16 + fsc * 8 + fsp * 4 + 3) / 4 ≡ 4 * q + 2 * fsc + fsp
  second_judged = omega (arith, mod-eq_of_lt hq)

-- a written ID reads back to what it names, its spare bits all 1
pub answer_written : (b : BlockId) → b.channel < 4 → b.dseq < 16 → b.dbn.0 < 256 → id_answer (id_bytes b) ≡ Named b (record { arbitrary = 15; reserved = 7 })
unfolding id_answer named_by spare_in id_bytes
answer_written b hc hd hn =
    let h = b.channel in
    let c : fsc_of h < 2 = omega arith in
    let p : fsp_of h < 2 = omega arith in
    let section : byte0_of b / 32 ≡ code_of b.section = omega arith in
    let below : byte0_of b / 32 < 5 = omega (arith, section, code_below b.section) in
    let dseq : byte1_of b / 16 ≡ b.dseq = second_dseq b.dseq (fsc_of h) (fsp_of h) hd c p in
    let fsc : byte1_of b / 8 % 2 ≡ fsc_of h = second_fsc b.dseq (fsc_of h) (fsp_of h) hd c p in
    let fsp : byte1_of b / 4 % 2 ≡ fsp_of h = second_fsp b.dseq (fsc_of h) (fsp_of h) hd c p in
    let dbn : byte2_of b ≡ b.dbn.0 = mod-eq_of_lt hn in
    let arbitrary : byte0_of b % 16 ≡ 15 = omega arith in
    let bit : byte0_of b / 16 % 2 ≡ 1 = omega arith in
    let low : byte1_of b % 4 ≡ 3 = omega arith in
    pick_true _ _ refl
    ∙ pick_true _ _ (lt-ltb _ _ below)
    ∙ rw (section, dseq, fsc, fsp, dbn, arbitrary, bit, low, section_code b.section, channel_bits h hc) refl

-- ---- id_answer: each case exactly when

module _ (id : List ℕ) where
  pub read_id_4 : (length id ≡ 3 → ⊥) → id_answer id ≡ WrongLength
  unfolding id_answer
  read_id_4 d = pick_false _ _ (ne_eqb _ _ d)

  pub read_id_11 : length id ≡ 3 → 5 ≤ section_bits id → id_answer id ≡ Reserved
  unfolding id_answer
  read_id_11 e r = pick_true _ _ (eq-eqb _ _ e) ∙ pick_false _ _ (le-ltb _ _ r)

  pub read_id_0 : length id ≡ 3 → section_bits id < 5 → id_answer id ≡ Named (named_by id) (spare_in id)
  unfolding id_answer
  read_id_0 e s = pick_true _ _ (eq-eqb _ _ e) ∙ pick_true _ _ (lt-ltb _ _ s)
