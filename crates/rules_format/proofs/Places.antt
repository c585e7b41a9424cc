-- Laws of sections and of the 150 places, each of the places proved once over all of them. Assumes nothing.
use Rattle.std.specs.Prelude.{Some, None}
use mathlib.Core.Path.{◌≡◌, refl, sym, ap, ◌∙◌, subst}
use mathlib.Core.Bool.{Bool, ◌&&◌}
use Prim.Native.Nat.{ℕ, ◌/◌, ◌%◌, ◌≤◌, ◌<◌}
use native.Mathlib.Omega.{arith}
use lib.Dec.{T, eqb, ltb, eqb→eq, ltb→lt}
use lib.ListN.{get_or, get_or-eq_default}
use borrow.Author.Tests.{lt-ltb, le-ltb}
use Rattle.base.specs.Pick.{pick}
use Rattle.base.specs.Run.{run, tab}
use Rattle.base.specs.Below.{below}
use Rattle.base.proofs.Cases.{by_lt}
use Rattle.base.proofs.Picks.{pick_true, pick_false}
use Rattle.base.proofs.Below.{below_at, both_left, both_right}
use Rattle.paper.specs.declared.Section.{Section}
use Rattle.paper.specs.declared.Section.TheVariants.{Header, Subcode, Vaux, Audio, Video}
use Rattle.paper.specs.declared.BlockNumber.{BlockNumber}
use Rattle.paper.specs.declared.Place.{Place}
use Rattle.paper.specs.declared.Entry.{Entry}
use Rattle.rules_format.specs.Places.{code_of, section_of, blocks_of, place, block, places, entry_at, place_in, place_for, place_of}
use Rattle.rules_format.specs.Judging.{printed, printed_places, entry_of}

-- ---- code_of, section_of

pub section_code : (s : Section) → section_of (code_of s) ≡ s
unfolding section_of pick
section_code Header = refl
section_code Subcode = refl
section_code Vaux = refl
section_code Audio = refl
section_code Video = refl

pub code_section : (k : ℕ) → k < 5 → code_of (section_of k) ≡ k
unfolding section_of pick
code_section k h = eqb→eq _ _ (below_at (λ j. eqb (code_of (section_of j)) j) 5 tt k h)

pub code_below : (s : Section) → code_of s < 5
code_below Header = omega arith
code_below Subcode = omega arith
code_below Vaux = omega arith
code_below Audio = omega arith
code_below Video = omega arith

-- sections with the same number are the same
pub code_one : (s t : Section) → code_of s ≡ code_of t → s ≡ t
code_one s t e = sym (section_code s) ∙ ap section_of e ∙ section_code t

-- ---- entry_at, place_in

-- every place holds a block of its section
holds : ℕ → Bool
holds p = ltb (entry_at (place p)).number.0 (blocks_of (entry_at (place p)).section)

pub entry_number_below : (p : ℕ) → p < 150 → (entry_at (place p)).number.0 < blocks_of (entry_at (place p)).section
unfolding holds entry_at places run tab
entry_number_below p h = ltb→lt _ _ (below_at holds 150 tt p h)

stands : ℕ → Bool
stands p = eqb (place_in (entry_at (place p)).section (entry_at (place p)).number.0) p

pub place_in_entry : (p : ℕ) → p < 150 → place_in (entry_at (place p)).section (entry_at (place p)).number.0 ≡ p
unfolding stands entry_at places run tab
place_in_entry p h = eqb→eq _ _ (below_at stands 150 tt p h)

-- block k of section s: its place is one of the 150, and holds it
within : Section → ℕ → Bool
within s k = ltb (place_in s k) 150

same_section : Section → ℕ → Bool
same_section s k = eqb (code_of (entry_at (place (place_in s k))).section) (code_of s)

same_number : Section → ℕ → Bool
same_number s k = eqb (entry_at (place (place_in s k))).number.0 k

found : Section → ℕ → Bool
found s k = within s k && (same_section s k && same_number s k)

all_found : (s : Section) → T (below (found s) (blocks_of s))
unfolding found within same_section same_number entry_at places run tab
all_found Header = tt
all_found Subcode = tt
all_found Vaux = tt
all_found Audio = tt
all_found Video = tt

module _ (s : Section) (k : ℕ) (h : k < blocks_of s) where
  is_found : T (within s k && (same_section s k && same_number s k))
  unfolding found
  is_found = below_at (found s) (blocks_of s) (all_found s) k h

  is_same : T (same_section s k && same_number s k)
  is_same = both_right (within s k) (same_section s k && same_number s k) is_found

  pub place_in_below : place_in s k < 150
  unfolding within
  place_in_below = ltb→lt _ _ (both_left (within s k) (same_section s k && same_number s k) is_found)

  pub entry_place_in : entry_at (place (place_in s k)) ≡ block s k
  unfolding same_section same_number
  entry_place_in =
      let e : (entry_at (place (place_in s k))).section ≡ s = code_one _ _ (eqb→eq _ _ (both_left (same_section s k) (same_number s k) is_same)) in
      let n : (entry_at (place (place_in s k))).number.0 ≡ k = eqb→eq _ _ (both_right (same_section s k) (same_number s k) is_same) in
      λ i. record { section = e i; number = record { 0 = n i } }

-- ---- place_for

module _ (s : Section) (k : BlockNumber) where
  pub place_for_lem : k.0 < blocks_of s → place_for s k ≡ place (place_in s k.0)
  unfolding place_for
  place_for_lem h = pick_true _ _ (lt-ltb _ _ h)

  pub place_for_past : blocks_of s ≤ k.0 → place_for s k ≡ place 150
  unfolding place_for
  place_for_past h = pick_false _ _ (le-ltb _ _ h)

  pub entry_place_for : k.0 < blocks_of s → entry_at (place_for s k) ≡ record { section = s; number = k }
  entry_place_for h = ap entry_at (place_for_lem h) ∙ entry_place_in s k.0 h

  pub place_for_none : (place_for s k).0 < 150 → entry_at (place_for s k) ≡ record { section = s; number = k }
  place_for_none h =
      by_lt k.0 (blocks_of s)
      (λ within. entry_place_for within)
      (λ past. absurd (omega (arith, h, ap (λ (p : Place). p.0) (place_for_past past))))

pub place_for_entry : (p : ℕ) → p < 150 → place_for (entry_at (place p)).section (entry_at (place p)).number ≡ place p
place_for_entry p h = place_for_lem _ _ (entry_number_below p h) ∙ ap place (place_in_entry p h)

-- ---- place_of: the one rule that turns a place into a block and back

pub place_of_entry : (p : ℕ) → p < 150 → place_of (entry_at (place p)) ≡ Some (place p)
unfolding place_of
place_of_entry p h = pick_true _ _ (lt-ltb _ _ (entry_number_below p h)) ∙ ap (λ (j : ℕ). Some (place j)) (place_in_entry p h)

pub entry_of_place : (e : Entry) (p : Place) → place_of e ≡ Some p → (p.0 < 150) × (entry_at p ≡ e)
unfolding place_of
entry_of_place e p f =
    by_lt e.number.0 (blocks_of e.section)
    (λ h.
    let q : Some (place (place_in e.section e.number.0)) ≡ Some p = sym (pick_true _ _ (lt-ltb _ _ h)) ∙ f in
    let same : place (place_in e.section e.number.0) ≡ p = cc in
    (subst (λ (x : Place). x.0 < 150) same (place_in_below e.section e.number.0 h), subst (λ (x : Place). entry_at x ≡ e) same (entry_place_in e.section e.number.0 h)))
    (λ h.
    let q : None ≡ Some p = sym (pick_false _ _ (le-ltb _ _ h)) ∙ f in
    let z : ◌≡◌ {A = ℕ} 0 1 = cc in
    absurd (omega arith))

pub entry_past : (p : ℕ) → 150 ≤ p → entry_at (place p) ≡ block Header 0
unfolding entry_at places run tab
entry_past p h = get_or-eq_default places (block Header 0) h

pub blocks_le : (s : Section) → blocks_of s ≤ 135
blocks_le Header = omega arith
blocks_le Subcode = omega arith
blocks_le Vaux = omega arith
blocks_le Audio = omega arith
blocks_le Video = omega arith

pub number_below : (p : ℕ) → p < 150 → (entry_at (place p)).number.0 < 135
number_below p h = omega (arith, entry_number_below p h, blocks_le (entry_at (place p)).section)

-- ---- printed_places, entry_of

prints : ℕ → Bool
prints p = eqb (get_or printed_places p 0) (printed (entry_at (place p)))

pub printed_at : (p : ℕ) → p < 150 → get_or printed_places p 0 ≡ printed (entry_at (place p))
unfolding prints printed_places entry_at places run tab
printed_at p h = eqb→eq _ _ (below_at prints 150 tt p h)

pub entry_printed : (e : Entry) → entry_of (printed e) ≡ e
unfolding entry_of
entry_printed e =
    let s : printed e % 65536 / 32 ≡ code_of e.section = omega (arith, code_below e.section) in
    let n : printed e / 65536 ≡ e.number.0 = omega (arith, code_below e.section) in
    rw (s, n, section_code e.section) refl
