-- The digits that are written are the number in decimal. Assumes nothing.
use mathlib.Core.Path.{◌≡◌, refl, sym, ap, ◌∙◌}
use mathlib.Core.List.{List, [], ◌∷◌, ◌++◌}
use Prim.Native.Nat.{ℕ, zero, suc, ◌-◌, ◌/◌, ◌%◌, ◌^◌, ◌≤◌, ◌<◌}
use native.Mathlib.Nat.{pow-suc, div-lt_iff_lt-mul, le-div_iff_mul-le, one-le-pow, pow-le-pow_right}
use native.Mathlib.Omega.{arith}
use borrow.Author.Tests.{lt-ltb, le-ltb}
use Rattle.base.proofs.Cases.{by_lt}
use Rattle.base.proofs.Picks.{pick_true, pick_false}
use Rattle.io.specs.Digits.{hex_digit_ascii, last_digits, IsDigitCount}
use Rattle.text.specs.Lines.{digit, digits_in, decimal}

-- ---- decimal

digits_small : (k n : ℕ) → n < 10 → digits_in k n ≡ digit n ∷ []
unfolding digits_in
digits_small zero n l = let e : n % 10 ≡ n = omega arith in rw e refl
digits_small (suc k) n l = pick_true _ _ (lt-ltb n 10 l)

digits_large : (k n : ℕ) → 10 ≤ n → digits_in (suc k) n ≡ digits_in k (n / 10) ++ (digit (n % 10) ∷ [])
unfolding digits_in
digits_large k n l = pick_false _ _ (le-ltb n 10 l)

-- what is left over does not matter
digits_same : (j k n : ℕ) → n ≤ j → n ≤ k → digits_in j n ≡ digits_in k n
digits_same zero k n a b = digits_small zero n (omega arith) ∙ sym (digits_small k n (omega arith))
digits_same (suc j) zero n a b = digits_small (suc j) n (omega arith) ∙ sym (digits_small zero n (omega arith))
digits_same (suc j) (suc k) n a b =
    by_lt n 10
    (λ l. digits_small (suc j) n l ∙ sym (digits_small (suc k) n l))
    (λ l.
    digits_large j n l
    ∙ ap (λ (ds : List ℕ). ds ++ (digit (n % 10) ∷ [])) (digits_same j k (n / 10) (omega arith) (omega arith))
    ∙ sym (digits_large k n l))

pub decimal_small : (n : ℕ) → n < 10 → decimal n ≡ digit n ∷ []
unfolding decimal
decimal_small n l = digits_small n n l

pub decimal_large : (n : ℕ) → 10 ≤ n → decimal n ≡ decimal (n / 10) ++ (digit (n % 10) ∷ [])
unfolding decimal
decimal_large n l =
    let some : n ≤ suc (n - 1) = omega arith in
    digits_same n (suc (n - 1)) n (omega arith) some
    ∙ digits_large (n - 1) n l
    ∙ ap (λ (ds : List ℕ). ds ++ (digit (n % 10) ∷ [])) (digits_same (n - 1) (n / 10) (n / 10) (omega arith) (omega arith))

-- ---- the fewest digits that hold the number

glyph_digit : (n : ℕ) → hex_digit_ascii (n % 10) ≡ digit (n % 10)
glyph_digit n = let l : n % 10 < 10 = omega arith in rw (lt-ltb (n % 10) 10 l) refl

pub fewest_decimal : (k n : ℕ) → IsDigitCount 10 1 n k → last_digits 10 k n ≡ decimal n
fewest_decimal zero n f = absurd (omega (arith, f.0))
fewest_decimal (suc zero) n f =
    let l : n < 10 = f.1 in
    let e : n % 10 ≡ n = omega arith in
    ap (λ (d : ℕ). d ∷ []) (glyph_digit n ∙ ap digit e) ∙ sym (decimal_small n l)
fewest_decimal (suc (suc k)) n f =
    let one : suc (suc k) - 1 ≡ suc k = omega arith in
    let low : 10 ^ suc k ≤ n = rw one at (f.2 (omega arith)) in
    let ten : 10 ≤ n = omega (arith, low, pow-suc 10 k, one-le-pow k 10 (omega arith)) in
    let above : n / 10 < 10 ^ suc k = (div-lt_iff_lt-mul {k = 10} (omega arith)).1 (rw (← pow-suc 10 (suc k)) f.1) in
    let none : suc k - 1 ≡ k = omega arith in
    let within : 1 < suc k → 10 ^ (suc k - 1) ≤ n / 10 = λ _. rw none ((le-div_iff_mul-le {k = 10} (omega arith)).1 (rw (← pow-suc 10 k) low)) in
    ap (λ (ds : List ℕ). ds ++ (hex_digit_ascii (n % 10) ∷ [])) (fewest_decimal (suc k) (n / 10) (omega arith, above, within))
    ∙ ap (λ (d : ℕ). decimal (n / 10) ++ (d ∷ [])) (glyph_digit n)
    ∙ sym (decimal_large n ten)

-- a number of 32 bits has at most ten
pub decimal_few : (k n : ℕ) → n < 4294967296 → IsDigitCount 10 1 n k → k ≤ 10
decimal_few k n l f =
    by_lt 10 k
    (λ g.
    let ten : 10 ≤ k - 1 = omega arith in
    let most : 10 ^ 10 ≤ 10 ^ (k - 1) = pow-le-pow_right {n = 10} (omega arith) ten in
    let low : 10 ^ (k - 1) ≤ n = f.2 (omega arith) in
    let lit : 10 ^ 10 ≡ 10000000000 = refl in
    absurd (omega (arith, most, low, lit)))
    (λ g. g)
