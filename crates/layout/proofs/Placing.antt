-- The ways out of the place rule and back. Assumes nothing.
use Rattle.std.specs.Prelude.{Some, None}
use mathlib.Core.Path.{◌≡◌, refl, sym, ap, ◌∙◌}
use Prim.Native.Nat.{ℕ, ◌+◌, ◌*◌, ◌-◌, ◌/◌, ◌%◌, ◌≤◌, ◌<◌}
use native.Mathlib.Omega.{arith}
use borrow.Author.Tests.{lt-ltb, le-ltb}
use Rattle.base.proofs.Cases.{by_lt}
use Rattle.base.proofs.Picks.{pick_true, pick_false}
use Rattle.paper.specs.declared.Section.{Section}
use Rattle.paper.specs.declared.Section.TheVariants.{Header, Subcode, Vaux, Audio, Video}
use Rattle.paper.specs.declared.BlockNumber.{BlockNumber}
use Rattle.paper.specs.declared.Place.{Place}
use Rattle.paper.specs.declared.Entry.{Entry}
use Rattle.rules_format.specs.Places.{blocks_of, place, block, entry_at, place_in, place_for, place_of}
use Rattle.rules_format.proofs.Places.{entry_past, entry_place_in, place_for_lem, place_for_past, place_in_below}

-- ---- entry_at

module _ (p : Place) (r : Entry) where
  pub entry_none : 150 ≤ p.0 → r ≡ block Header 0 → r ≡ entry_at p
  entry_none h e = e ∙ sym (entry_past p.0 h)

  -- what stands where the rule puts it
  ruled : (s : Section) (k : ℕ) → k < blocks_of s → p.0 ≡ place_in s k → r ≡ block s k → r ≡ entry_at p
  ruled s k l e er = er ∙ sym (ap (λ (j : ℕ). entry_at (place j)) e ∙ entry_place_in s k l)

  pub entry_header : p.0 < 1 → r ≡ block Header p.0 → r ≡ entry_at p
  entry_header h = ruled Header p.0 h refl

  module _ (above : 1 ≤ p.0) where
    pub entry_subcode : p.0 < 3 → r ≡ block Subcode (p.0 - 1) → r ≡ entry_at p
    entry_subcode h = ruled Subcode (p.0 - 1) (omega arith) (omega arith)

  module _ (above : 3 ≤ p.0) where
    pub entry_vaux : p.0 < 6 → r ≡ block Vaux (p.0 - 3) → r ≡ entry_at p
    entry_vaux h = ruled Vaux (p.0 - 3) (omega arith) (omega arith)

  module _ (above : 6 ≤ p.0) (below : p.0 < 150) where
    pub entry_audio : (p.0 - 6) % 16 ≡ 0 → r ≡ block Audio ((p.0 - 6) / 16) → r ≡ entry_at p
    entry_audio z = ruled Audio ((p.0 - 6) / 16) (omega arith) (omega arith)

    pub entry_video : ((p.0 - 6) % 16 ≡ 0 → ⊥) → r ≡ block Video (15 * ((p.0 - 6) / 16) + (p.0 - 6) % 16 - 1) → r ≡ entry_at p
    entry_video d = ruled Video (15 * ((p.0 - 6) / 16) + (p.0 - 6) % 16 - 1) (omega arith) (omega arith)

-- ---- place_in: k is a block's number, n what the code counts of its section's blocks

module _ (s : Section) (k : BlockNumber) (n : ℕ) (en : n ≡ blocks_of s) where
  pub past_way : n ≤ k.0 → place 150 ≡ place_for s k
  past_way h = sym (place_for_past s k (omega (arith, en)))

  module _ (h : k.0 < n) where
    below_way : (p : ℕ) → p ≡ place_in s k.0 → place p ≡ place_for s k
    below_way p e = ap place e ∙ sym (place_for_lem s k (omega (arith, en)))

    pub header_way : s ≡ Header → place k.0 ≡ place_for s k
    header_way e = below_way _ (rw e refl)

    pub subcode_way : s ≡ Subcode → place (1 + k.0) ≡ place_for s k
    subcode_way e = below_way _ (rw e refl)

    pub vaux_way : s ≡ Vaux → place (3 + k.0) ≡ place_for s k
    vaux_way e = below_way _ (rw e refl)

    pub audio_way : s ≡ Audio → place (6 + 16 * k.0) ≡ place_for s k
    audio_way e = below_way _ (rw e refl)

    pub video_way : s ≡ Video → place (7 + 16 * (k.0 / 15) + k.0 % 15) ≡ place_for s k
    video_way e = below_way _ (rw e refl)

-- ---- place_of

module _ (e : Entry) (p : Place) (ep : p ≡ place_for e.section e.number) where
  pub nowhere_way : 150 ≤ p.0 → None ≡ place_of e
  unfolding place_of
  nowhere_way h =
      by_lt e.number.0 (blocks_of e.section)
      (λ l. absurd (omega (arith, ap (λ (x : Place). x.0) (ep ∙ place_for_lem e.section e.number l), place_in_below e.section e.number.0 l)))
      (λ l. sym (pick_false _ _ (le-ltb _ _ l)))

  pub at_way : p.0 < 150 → Some p ≡ place_of e
  unfolding place_of
  at_way h =
      by_lt e.number.0 (blocks_of e.section)
      (λ l. ap Some (ep ∙ place_for_lem e.section e.number l) ∙ sym (pick_true _ _ (lt-ltb _ _ l)))
      (λ l. absurd (omega (arith, ap (λ (x : Place). x.0) (ep ∙ place_for_past e.section e.number l))))
