-- Parts of a list, as a range of a slice lends them. Assumes nothing.
use mathlib.Core.Path.{◌≡◌, ap, ◌∙◌}
use mathlib.Core.List.{List, [], ◌∷◌, ◌++◌, append-nil}
use Prim.Native.Nat.{ℕ, zero, suc, ◌+◌, ◌*◌, ◌-◌, ◌≤◌, ◌<◌}
use native.Mathlib.Nat.{add-sub_cancel_left, zero-add, suc-add, suc-mul, mul-le-mul_right}
use native.Mathlib.Omega.{arith}
use lib.ListN.{length, take, drop, length-drop, drop_of_length-le}
use lib.Seq.{length-take-le, drop-drop, take-take, take-nil, take_all, sets, sets-eq}
use Rattle.base.proofs.Cases.{by_lt}

module _ {A : Type 0} where
  -- n elements from a on
  pub length_part : (a n : ℕ) (l : List A) → a + n ≤ length l → length (take n (drop a l)) ≡ n
  length_part a n l h = length-take-le n (drop a l) (omega (arith, length-drop a l))

  -- what `&l[a..a + n]` lends
  pub range_part : (a n : ℕ) (l : List A) → take (a + n - a) (drop a l) ≡ take n (drop a l)
  range_part a n l = ap (λ (k : ℕ). take k (drop a l)) (add-sub_cancel_left a n)

  -- what `&l[a..]` lends, and what is left behind it
  pub rest_part : (a : ℕ) (l : List A) → take (length l - a) (drop a l) ≡ drop a l
  rest_part a l = take_all (length l - a) (drop a l) (omega (arith, length-drop a l))

  pub rest_past : (a : ℕ) (l : List A) → drop (length l - a) (drop a l) ≡ []
  rest_past a l = drop_of_length-le (drop a l) {i = length l - a} (omega (arith, length-drop a l))

  -- nothing is left of a list after its length
  pub none_left : (n : ℕ) (l : List A) → length l ≡ n → drop n l ≡ []
  none_left n l e = drop_of_length-le l {i = n} (omega arith)

  -- stores one after the other that fill a list
  pub all_set : (l xs : List A) → length l ≡ length xs → sets l 0 xs ≡ xs
  all_set l xs e =
      let fits : 0 + length xs ≤ length l = omega arith in
      let past : length l ≤ 0 + length xs = omega arith in
      sets-eq xs l 0 fits ∙ ap (λ (rest : List A). xs ++ rest) (drop_of_length-le l past) ∙ append-nil xs

  drop_take : (a n : ℕ) (l : List A) → drop a (take (a + n) l) ≡ take n (drop a l)
  drop_take zero n l = rw zero-add
  drop_take (suc a) n [] = rw (take-nil, take-nil)
  drop_take (suc a) n (x ∷ xs) = rw suc-add (drop_take a n xs)

  -- a part without its first elements
  pub drop_part : (a b n : ℕ) (l : List A) → drop b (take (b + n) (drop a l)) ≡ take n (drop (a + b) l)
  drop_part a b n l = drop_take b n (drop a l) ∙ ap (take n) (drop-drop b a l)

  -- a part of a part is a part of the whole
  pub part_part : (a m b n : ℕ) (l : List A) → b + n ≤ m → take n (drop b (take m (drop a l))) ≡ take n (drop (a + b) l)
  part_part a m b n l h =
      let e : m ≡ b + (m - b) = omega arith in
      ap (λ (k : ℕ). take n (drop b (take k (drop a l)))) e
      ∙ ap (take n) (drop_take b (m - b) (drop a l))
      ∙ take-take n (m - b) (drop b (drop a l)) (omega arith)
      ∙ ap (take n) (drop-drop b a l)

-- a number below w after a multiple of w is known from their sum
pub digit_one : (w a b i j : ℕ) → i < w → j < w → a * w + i ≡ b * w + j → (a ≡ b) × (i ≡ j)
digit_one w a b i j hi hj e =
    by_lt a b
    (λ l. absurd (omega (arith, e, suc-mul a w, mul-le-mul_right w l)))
    (λ g.
    by_lt b a
    (λ l. absurd (omega (arith, e, suc-mul b w, mul-le-mul_right w l)))
    (λ l. let same : a ≡ b = omega arith in (same, omega (arith, e, ap (λ (k : ℕ). k * w) same))))
