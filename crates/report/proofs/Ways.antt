-- Which line it is. Assumes nothing.
use mathlib.Core.Path.{◌≡◌, refl, sym, ap, ◌∙◌}
use mathlib.Core.List.{List, [], ◌∷◌}
use Prim.Native.Nat.{ℕ, ◌+◌, ◌*◌, ◌-◌, ◌≤◌, ◌<◌}
use native.Mathlib.Omega.{arith}
use lib.Dec.{leb}
use lib.ListN.{length, take, drop}
use borrow.Author.Tests.{eq-eqb, ne_eqb, lt-ltb, le-ltb, le-leb}
use Rattle.base.proofs.Picks.{pick_true, pick_false, pick_either}
use Rattle.base.proofs.Parts.{range_part, length_part}
use Rattle.paper.specs.declared.Survey.{Survey}
use Rattle.rules_surveys.specs.Records.{width}
use Rattle.text.specs.Lines.{line_of, line_in, Lined}
use Rattle.report.specs.Printed.{record_line, totals_line, refusal_line, line_at, in_room, Printed}

-- ---- a line of at most five fields

in_room_lem : (letter : ℕ) (xs : List ℕ) (size : ℕ) → length xs ≤ 5 → line_in letter xs size ≡ in_room size (line_of letter xs)
unfolding line_in in_room
in_room_lem letter xs size l = rw (le-leb (length xs) 5 l) refl

printed : (letter : ℕ) (xs text out out' : List ℕ) (r : ℕ) → length xs ≤ 5 → text ≡ line_of letter xs → Lined letter xs out out' r → Printed text out out' r
printed letter xs text out out' r l e p =
    let s : line_in letter xs (length out) ≡ in_room (length out) text = in_room_lem letter xs (length out) l ∙ ap (in_room (length out)) (sym e) in
    record { left = rw s at p.left; count = rw s at p.count; small = p.small }

none_in : (size : ℕ) → in_room size [] ≡ []
unfolding in_room
none_in size = pick_either (λ l. l ≡ []) (leb 64 size) refl refl

-- no line
printed_none : (text out : List ℕ) → text ≡ [] → Printed text out out 0
printed_none text out e =
    let s : in_room (length out) text ≡ [] = ap (in_room (length out)) e ∙ none_in (length out) in
    record { left = rw s refl; count = rw s refl; small = omega arith }

-- ---- the ways out

module _ (list : List ℕ) (i : ℕ) where
  pub record_none : (out : List ℕ) → length list < width * i + width → Printed (record_line list i) out out 0
  unfolding record_line
  record_none out l = printed_none _ out (pick_true _ _ (lt-ltb _ _ l))

  pub record_printed : (fields out out' : List ℕ) (r : ℕ) → width * i + width ≤ length list
      → fields ≡ take (width * i + width - width * i) (drop (width * i) list) → Lined 0x46 fields out out' r → Printed (record_line list i) out out' r
  unfolding record_line
  record_printed fields out out' r l f p =
      let e : fields ≡ take width (drop (width * i) list) = f ∙ range_part (width * i) width list in
      let n : length (take width (drop (width * i) list)) ≡ width = length_part (width * i) width list l in
      printed 0x46 (take width (drop (width * i) list)) _ out out' r (omega (arith, n)) (pick_false _ _ (le-ltb _ _ l)) (rw e at p)

pub totals_printed : (total kept : ℕ) (out out' : List ℕ) (r : ℕ) → Lined 0x54 (total ∷ kept ∷ []) out out' r → Printed (totals_line total kept) out out' r
unfolding totals_line
totals_printed total kept out out' r p = printed 0x54 (total ∷ kept ∷ []) _ out out' r (omega arith) refl p

pub refusal_printed : (number : ℕ) (out out' : List ℕ) (r : ℕ) → Lined 0x45 (number ∷ []) out out' r → Printed (refusal_line number) out out' r
unfolding refusal_line
refusal_printed number out out' r p = printed 0x45 (number ∷ []) _ out out' r (omega arith) refl p

-- ---- line i

module _ (s : Survey) (list : List ℕ) (i : ℕ) where
  module _ (z : s.number ≡ 0) where
    pub at_record : i < s.kept → line_at s list i ≡ record_line list i
    unfolding line_at
    at_record l = pick_true _ _ (eq-eqb _ _ z) ∙ pick_true _ _ (lt-ltb _ _ l)

    pub at_totals : i ≡ s.kept → line_at s list i ≡ totals_line s.total s.kept
    unfolding line_at
    at_totals e = let l : s.kept ≤ i = omega arith in pick_true _ _ (eq-eqb _ _ z) ∙ pick_false _ _ (le-ltb _ _ l) ∙ pick_true _ _ (eq-eqb _ _ e)

    pub at_end : s.kept < i → line_at s list i ≡ []
    unfolding line_at
    at_end g =
        let l : s.kept ≤ i = omega arith in
        let d : i ≡ s.kept → ⊥ = λ e. omega arith in
        pick_true _ _ (eq-eqb _ _ z) ∙ pick_false _ _ (le-ltb _ _ l) ∙ pick_false _ _ (ne_eqb _ _ d)

  module _ (d : s.number ≡ 0 → ⊥) where
    pub at_refusal : i ≡ 0 → line_at s list i ≡ refusal_line s.number
    unfolding line_at
    at_refusal e = pick_false _ _ (ne_eqb _ _ d) ∙ pick_true _ _ (eq-eqb _ _ e)

    pub at_none : (i ≡ 0 → ⊥) → line_at s list i ≡ []
    unfolding line_at
    at_none e = pick_false _ _ (ne_eqb _ _ d) ∙ pick_false _ _ (ne_eqb _ _ e)

module _ (s : Survey) (list : List ℕ) (i : ℕ) (out out' : List ℕ) (r : ℕ) where
  pub line_refusal : (s.number ≡ 0 → ⊥) → i ≡ 0 → Printed (refusal_line s.number) out out' r → Printed (line_at s list i) out out' r
  line_refusal d e p = rw (at_refusal s list i d e) p

  pub line_record : s.number ≡ 0 → i < s.kept → Printed (record_line list i) out out' r → Printed (line_at s list i) out out' r
  line_record z l p = rw (at_record s list i z l) p

  pub line_totals : s.number ≡ 0 → i ≡ s.kept → Printed (totals_line s.total s.kept) out out' r → Printed (line_at s list i) out out' r
  line_totals z e p = rw (at_totals s list i z e) p

module _ (s : Survey) (list : List ℕ) (i : ℕ) (out : List ℕ) where
  pub line_after_refusal : (s.number ≡ 0 → ⊥) → (i ≡ 0 → ⊥) → Printed (line_at s list i) out out 0
  line_after_refusal d e = printed_none _ out (at_none s list i d e)

  pub line_after_totals : s.number ≡ 0 → s.kept ≤ i → (i ≡ s.kept → ⊥) → Printed (line_at s list i) out out 0
  line_after_totals z l e = let g : s.kept < i = omega (arith, e) in printed_none _ out (at_end s list i z g)
