-- Where the bytes of a sequence stand in the frame. Assumes nothing.
use mathlib.Core.Path.{◌≡◌, refl, sym, ap, ◌∙◌}
use mathlib.Core.List.{List}
use Prim.Native.Nat.{ℕ, ◌+◌, ◌-◌, ◌*◌, ◌/◌, ◌%◌, ◌≤◌, ◌<◌}
use native.Mathlib.Nat.{add_assoc, mul-le-mul_right, mul-le-mul_left}
use native.Mathlib.Omega.{arith}
use lib.ListN.{take, drop, get_or, length-take, get_or-eq_default}
use lib.Seq.{get_or-take, get_or-drop}
use Rattle.base.proofs.Parts.{part_part}
use Rattle.paper.specs.declared.System.{System}
use Rattle.paper.specs.declared.Section.{Section}
use Rattle.paper.specs.declared.Section.TheVariants.{Header, Subcode, Vaux, Audio}
use Rattle.paper.specs.declared.BlockNumber.{BlockNumber}
use Rattle.paper.specs.declared.Place.{Place}
use Rattle.paper.specs.declared.Pack.{Pack}
use Rattle.rules_format.specs.Systems.{sequences_of, half_of}
use Rattle.rules_format.specs.Places.{blocks_of, place, place_for}
use Rattle.rules_packs.specs.Packs.{pack_in}
use Rattle.rules_format.specs.Blocks.{sequence_at, block_in}
use Rattle.rules_packs.specs.Vaux.{vs_at}
use Rattle.rules_packs.specs.Aaux.{as_at}
use Rattle.rules_reads.specs.Check.{header_in, vs_in}
use Rattle.rules_reads.specs.Audio.{as_in}
use Rattle.rules_reads.specs.Time.{ssyb_in}
use Rattle.rules_format.proofs.Systems.{sequences_le, half_twice}
use Rattle.rules_format.proofs.Places.{place_in_below, place_for_lem}
use Rattle.rules_packs.proofs.Vaux.{vs_below}
use Rattle.rules_packs.proofs.Aaux.{as_below}
use Rattle.judges.specs.Asked.{sequence_from, InBlock, FirstInHalf}

-- ---- sequences

module _ (y : System) (h q : ℕ) where
  pub start_le : (n : ℕ) → n ≡ sequences_of y → n * h ≤ 12 * h
  start_le n e = mul-le-mul_right h (rw e (sequences_le y))

  pub start_is : (frame : List ℕ) (n : ℕ) → n ≡ sequences_of y → sequence_from frame ((n * h + q) * 12000) ≡ sequence_at y frame h q
  unfolding sequence_from sequence_at
  start_is frame n e = rw e refl

half_le : (y : System) → half_of y ≤ 6
half_le y = omega (arith, half_twice y, sequences_le y)

pub first_le : (y : System) (s c : ℕ) → s ≡ half_of y → s * (1 - c % 2) ≤ 6
first_le y s c e = omega (arith, half_le y, e, mul-le-mul_left {m = 1 - c % 2} {n = 1} s (omega arith))

pub first_way : (y : System) (s c : ℕ) → s ≡ half_of y → FirstInHalf y c (s * (1 - c % 2))
first_way y s c e =
    let same : 1 - c % 2 ≡ (c + 1) % 2 = omega arith in
    record { is = rw (e, same) refl; few = omega (arith, first_le y s c e) }

-- ---- bytes

module _ (frame : List ℕ) (at : ℕ) where
  pub block_byte : (p i : ℕ) → p < 150 → i < 80 → get_or frame (at + p * 80 + i) 0 ≡ get_or (block_in (sequence_from frame at) p) i 0
  unfolding block_in sequence_from
  block_byte p i hp hi =
      sym
      (ap (λ (l : List ℕ). get_or l i 0) (part_part at 12000 (p * 80) 80 frame (omega arith))
      ∙ get_or-take 80 (drop (at + p * 80) frame) i 0 hi
      ∙ get_or-drop (at + p * 80) frame i 0)

  pub header_way : (p : Place) (i r : ℕ) → p ≡ place_for Header (record { 0 = 0 }) → i < 80 → r ≡ get_or frame (at + p.0 * 80 + i) 0 → r ≡ get_or (header_in (sequence_from frame at)) i 0
  header_way p i r ep h e =
      let there : p ≡ place 0 = ep ∙ place_for_lem Header _ (omega arith) in
      e ∙ rw there (block_byte 0 i (omega arith) h)

  pub header_past : (i : ℕ) → 80 ≤ i → 0 ≡ get_or (header_in (sequence_from frame at)) i 0
  unfolding block_in
  header_past i h =
      let part = drop (0 * 80) (sequence_from frame at) in
      sym (get_or-eq_default (take 80 part) 0 (omega (arith, length-take 80 part)))

  module _ (p : Place) (i : ℕ) (asked : InBlock p i) where
    pack_byte : (j : ℕ) → j < 5 → get_or frame (at + p.0 * 80 + i + j) 0 ≡ get_or (block_in (sequence_from frame at) p.0) (i + j) 0
    pack_byte j h =
        ap (λ (k : ℕ). get_or frame k 0) (add_assoc (at + p.0 * 80) i j)
        ∙ block_byte p.0 (i + j) asked.place (omega (arith, asked.within))

    module _ (b0 b1 b2 b3 b4 : ℕ) where
      pub pack_way : b0 ≡ get_or frame (at + p.0 * 80 + i) 0 → b1 ≡ get_or frame (at + p.0 * 80 + i + 1) 0 → b2 ≡ get_or frame (at + p.0 * 80 + i + 2) 0 → b3 ≡ get_or frame (at + p.0 * 80 + i + 3) 0 → b4 ≡ get_or frame (at + p.0 * 80 + i + 4) 0
          → record { pc0 = b0; pc1 = b1; pc2 = b2; pc3 = b3; pc4 = b4 } ≡ pack_in (block_in (sequence_from frame at) p.0) i
      pack_way e0 e1 e2 e3 e4 =
          rw (
            e0 ∙ block_byte p.0 i asked.place (omega (arith, asked.within)),
            e1 ∙ pack_byte 1 (omega arith),
            e2 ∙ pack_byte 2 (omega arith),
            e3 ∙ pack_byte 3 (omega arith),
            e4 ∙ pack_byte 4 (omega arith),
          )
          refl

-- ---- the places of packs, p what the place rule says

-- the place of a section's block is one of the 150
there : (s : Section) (k : BlockNumber) (p : Place) → p ≡ place_for s k → k.0 < blocks_of s → p.0 < 150
there s k p e h = rw (e, place_for_lem s k h) (place_in_below s k.0 h)

module _ (k : ℕ) (p : Place) where
  pub vs_asked : (q : ℕ) → k ≡ vs_at q → p ≡ place_for Vaux (record { 0 = k / 15 }) → InBlock p (3 + 5 * (k % 15))
  vs_asked q e ep = record { place = there Vaux _ p ep (omega (arith, e, vs_below q)); within = omega arith }

  pub as_asked : (q : ℕ) → k ≡ as_at q → p ≡ place_for Audio (record { 0 = k }) → InBlock p 3
  as_asked q e ep = record { place = there Audio _ p ep (omega (arith, e, as_below q)); within = omega arith }

  pub ssyb_asked : k < 12 → p ≡ place_for Subcode (record { 0 = k / 6 }) → InBlock p (6 + 8 * (k % 6))
  ssyb_asked h ep = record { place = there Subcode _ p ep (omega arith); within = omega arith }

module _ (part : List ℕ) (k : ℕ) (p : Place) (r : Pack) where
  pub vs_way : (q : ℕ) → k ≡ vs_at q → p ≡ place_for Vaux (record { 0 = k / 15 }) → r ≡ pack_in (block_in part p.0) (3 + 5 * (k % 15)) → r ≡ vs_in q part
  vs_way q e ep er = er ∙ rw (ep ∙ place_for_lem Vaux _ (omega (arith, e, vs_below q)), e) refl

  pub as_way : (q : ℕ) → k ≡ as_at q → p ≡ place_for Audio (record { 0 = k }) → r ≡ pack_in (block_in part p.0) 3 → r ≡ as_in q part
  as_way q e ep er = er ∙ rw (ep ∙ place_for_lem Audio _ (omega (arith, e, as_below q)), e) refl

  pub ssyb_way : k < 12 → p ≡ place_for Subcode (record { 0 = k / 6 }) → r ≡ pack_in (block_in part p.0) (6 + 8 * (k % 6)) → r ≡ ssyb_in k part
  ssyb_way h ep er = er ∙ rw (ep ∙ place_for_lem Subcode _ (omega arith)) refl
