-- Pieces of a line that are written one behind the other. Assumes nothing.
use mathlib.Core.Path.{◌≡◌, refl, sym, ap, ◌∙◌}
use mathlib.Core.List.{List, [], ◌∷◌, ◌++◌, append_assoc, append-nil}
use Prim.Native.Nat.{ℕ, ◌+◌, ◌≤◌, ◌<◌}
use native.Mathlib.Nat.{zero-add}
use native.Mathlib.Numerals.{add-one}
use native.Mathlib.Omega.{arith}
use lib.ListN.{length, take, drop, get_or, length-append, length-drop, take-append-drop}
use lib.Seq.{take-suc, take_at, drop-append-add, drop-drop, length-take-le}
use borrow.Author.Tests.{le-leb, lt-leb}
use Rattle.base.proofs.Picks.{pick_true, pick_false}
use Rattle.io.specs.Digits.{last_digits, IsDigitCount}
use Rattle.io.specs.Counts.{IsPrefixLen}
use Rattle.text.specs.Lines.{decimal, fields_of, line_of, line_in, Put, PutField, FieldsAsked, Fielding, Lined}
use Rattle.text.proofs.Decimals.{fewest_decimal, decimal_few}

-- ---- pieces

-- nothing
put_none : (at : ℕ) (out : List ℕ) → at ≤ length out → Put [] at out out at
put_none at out h = record { left = rw zero_at (sym (take-append-drop at out)); ends = omega arith; within = omega arith }
  where
    zero_at : at + 0 ≡ at
    zero_at = omega arith

-- one behind the other
put_both : {a b : List ℕ} {at r s : ℕ} {out out' out'' : List ℕ} → Put a at out out' r → Put b r out' out'' s → Put (a ++ b) at out out'' s
put_both {a} {b} {at} {r} {s} {out} {out'} {out''} p q =
    let n : length (take at out ++ a) ≡ at + length a = length-append (take at out) a ∙ ap (λ (k : ℕ). k + length a) (length-take-le at out (omega (arith, p.within))) in
    let e : out' ≡ (take at out ++ a) ++ drop (at + length a) out = p.left ∙ sym (append_assoc (take at out) a (drop (at + length a) out)) in
    let first : take r out' ≡ take at out ++ a = rw (e, p.ends) (take_at (take at out ++ a) (drop (at + length a) out) (at + length a) n) in
    let past : r + length b ≡ length (take at out ++ a) + length b = omega (arith, p.ends, n) in
    let end : at + length a + length b ≡ at + length (a ++ b) = omega (arith, length-append a b) in
    let rest : drop (r + length b) out' ≡ drop (at + length (a ++ b)) out =
    rw (e, past) (drop-append-add (take at out ++ a) (drop (at + length a) out) (length b) ∙ drop-drop (length b) (at + length a) out ∙ ap (λ (k : ℕ). drop k out) end) in
    let size : length out' ≡ length out = ap length e ∙ length-append (take at out ++ a) (drop (at + length a) out) ∙ omega (arith, n, length-drop (at + length a) out, p.within) in
    record {
      left = q.left ∙ rw (first, rest) (append_assoc (take at out) a (b ++ drop (at + length (a ++ b)) out) ∙ ap (λ (l : List ℕ). take at out ++ l) (sym (append_assoc a b (drop (at + length (a ++ b)) out))));
      ends = q.ends ∙ omega (arith, p.ends, length-append a b);
      within = omega (arith, q.within, p.ends, length-append a b, size);
    }

-- ---- put_number

-- k digits were made in digits, and lent on
module _ (x k : ℕ) (digits' : List ℕ) (l : x < 4294967296) (c : IsPrefixLen k digits') (f : IsDigitCount 10 1 x k) (d : take k digits' ≡ last_digits 10 k x) where
  number_text : take k digits' ≡ decimal x
  number_text = d ∙ fewest_decimal k x f

  pub number_asks : (out : List ℕ) (at : ℕ) → at + 10 ≤ length out → at + length (take k digits') ≤ length out
  number_asks out at h = omega (arith, c.1, decimal_few k x l f)

  pub number_put : (out out' : List ℕ) (at r : ℕ) → Put (take k digits') at out out' r → PutField (decimal x) 10 at out out' r
  number_put out out' at r p = record { put = rw number_text at p; small = omega (arith, p.ends, c.1, decimal_few k x l f) }

-- ---- put_fields

fields_append : (xs ys : List ℕ) → fields_of (xs ++ ys) ≡ fields_of xs ++ fields_of ys
unfolding fields_of
fields_append [] ys = refl
fields_append (x ∷ xs) ys = ap (λ (l : List ℕ). (9 ∷ decimal x) ++ l) (fields_append xs ys) ∙ sym (append_assoc (9 ∷ decimal x) (fields_of xs) (fields_of ys))

fields_one : (x : ℕ) → fields_of (x ∷ []) ≡ 9 ∷ decimal x
unfolding fields_of
fields_one x = append-nil (9 ∷ decimal x)

fields_more : (xs : List ℕ) (i : ℕ) → i < length xs → fields_of (take (i + 1) xs) ≡ fields_of (take i xs) ++ (9 ∷ decimal (get_or xs i 0))
fields_more xs i h = rw (add-one, take-suc xs i 0 h) (fields_append (take i xs) (get_or xs i 0 ∷ []) ∙ ap (λ (l : List ℕ). fields_of (take i xs) ++ l) (fields_one (get_or xs i 0)))

module _ (xs out₀ : List ℕ) (at : ℕ) (a : FieldsAsked xs out₀ at) where
  pub fields_start : Fielding xs at out₀ out₀ at 0
  unfolding fields_of
  fields_start = record { put = put_none at out₀ (omega (arith, a.room)); size = refl; small = omega arith; turns = omega arith }

  module _ (out : List ℕ) (end i : ℕ) (g : Fielding xs at out₀ out end i) where
    pub fields_turn : i < length xs → (out' : List ℕ) (r : ℕ) → PutField (9 ∷ decimal (get_or xs i 0)) 11 end out out' r → length out' ≡ length out → Fielding xs at out₀ out' r (i + 1)
    fields_turn l out' r p es =
        record { put = rw (fields_more xs i l) (put_both g.put p.put); size = es ∙ g.size; small = omega (arith, p.small, g.small); turns = omega arith }

-- ---- line

lined : (letter : ℕ) (xs out₀ out' text : List ℕ) (r : ℕ) → line_in letter xs (length out₀) ≡ text → out' ≡ text ++ drop (length text) out₀ → r ≡ length text → r ≤ 64 → Lined letter xs out₀ out' r
lined letter xs out₀ out' text r e l er m = record { left = rw e l; count = rw e er; small = m }

module _ (letter : ℕ) (xs : List ℕ) (size : ℕ) where
  line_whole : length xs ≤ 5 → 64 ≤ size → line_in letter xs size ≡ line_of letter xs
  unfolding line_in
  line_whole a b = pick_true _ _ (rw (le-leb (length xs) 5 a, le-leb 64 size b) refl)

  line_none_many : 5 < length xs → line_in letter xs size ≡ []
  unfolding line_in
  line_none_many a = pick_false _ _ (rw (lt-leb (length xs) 5 a) refl)

  line_none_narrow : length xs ≤ 5 → size < 64 → line_in letter xs size ≡ []
  unfolding line_in
  line_none_narrow a b = pick_false _ _ (rw (le-leb (length xs) 5 a, lt-leb 64 size b) refl)

module _ (letter : ℕ) (xs out₀ : List ℕ) where
  pub line_many : 5 < length xs → Lined letter xs out₀ out₀ 0
  line_many l = lined letter xs out₀ out₀ [] 0 (line_none_many letter xs (length out₀) l) refl refl (omega arith)

  module _ (most : length xs ≤ 5) where
    pub line_narrow : length out₀ < 64 → Lined letter xs out₀ out₀ 0
    line_narrow l = lined letter xs out₀ out₀ [] 0 (line_none_narrow letter xs (length out₀) most l) refl refl (omega arith)

    module _ (room : 64 ≤ length out₀) (out : List ℕ) (first : ℕ) (p : Put (letter ∷ []) 0 out₀ out first) (es : length out ≡ length out₀) where
      module _ (out' : List ℕ) (end : ℕ) (q : PutField (fields_of xs) 55 first out out' end) (es' : length out' ≡ length out) where
        pub line_done : (out'' : List ℕ) (r : ℕ) → Put (10 ∷ []) end out' out'' r → Lined letter xs out₀ out'' r
        unfolding line_of
        line_done out'' r t =
            let w = put_both (put_both p q.put) t in
            lined letter xs out₀ out'' (line_of letter xs) r (line_whole letter xs (length out₀) most room) (w.left ∙ rw zero-add refl) (w.ends ∙ zero-add _) (omega (arith, p.ends, q.small, t.ends))
