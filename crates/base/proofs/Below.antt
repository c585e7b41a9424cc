-- A rule of every number below a bound, proved by one test that antt computes. Assumes nothing.
use mathlib.Core.Path.{◌≡◌, refl, subst, sym}
use mathlib.Core.Bool.{Bool, true, false, not, ◌&&◌}
use Prim.Native.Nat.{ℕ, zero, suc, ◌+◌, ◌<◌}
use native.Mathlib.Nat.{not-suc-le-zero}
use native.Mathlib.Numerals.{add-one}
use native.Mathlib.Omega.{arith}
use lib.Dec.{T}
use borrow.Author.Tests.{not-true, not-false}
use Rattle.base.specs.Below.{below}
use Rattle.base.proofs.Cases.{by_bool, by_eq}
use Rattle.base.proofs.Picks.{both_held, both_hold}

-- ---- both of two tests

pub both_left : (a b : Bool) → T (a && b) → T a
both_left true b t = tt
both_left false b t = t

pub both_right : (a b : Bool) → T (a && b) → T b
both_right true b t = t
both_right false b t = absurd t

-- ---- below

pub below_at : (f : ℕ → Bool) (n : ℕ) → T (below f n) → (k : ℕ) → k < n → T (f k)
below_at f zero t k h = absurd (not-suc-le-zero h)
below_at f (suc n) t k h =
    by_eq k n
    (λ e. subst (λ (m : ℕ). T (f m)) (sym e) (both_left (f n) (below f n) t))
    (λ d. below_at f n (both_right (f n) (below f n) t) k (omega (arith, d)))

-- one number more, as a loop counts
pub below_more : (f : ℕ → Bool) (n : ℕ) → (f n && below f n) ≡ below f (n + 1)
below_more f n = rw add-one refl

-- exactly when it passes at each
pub below_means : (f : ℕ → Bool) (n : ℕ) → below f n ≡ true → (k : ℕ) → k < n → f k ≡ true
below_means f zero t k h = absurd (not-suc-le-zero h)
below_means f (suc n) t k h =
    let both = both_held (f n) (below f n) t in
    by_eq k n (λ e. rw e both.0) (λ d. below_means f n both.1 k (omega (arith, d)))

pub below_when : (f : ℕ → Bool) (n : ℕ) → ((k : ℕ) → k < n → f k ≡ true) → below f n ≡ true
below_when f zero h = refl
below_when f (suc n) h = both_hold (h n (omega arith)) (below_when f n (λ k l. h k (omega arith)))

-- and fails where it fails at one
pub below_fails : (f : ℕ → Bool) (n k : ℕ) → k < n → f k ≡ false → below f n ≡ false
below_fails f zero k h e = absurd (not-suc-le-zero h)
below_fails f (suc n) k h e =
    by_eq k n
    (λ s. let here : f n ≡ false = rw s at e in rw here refl)
    (λ d. let rest = below_fails f n k (omega (arith, d)) e in last (f n) rest)
  where
    last : (a : Bool) {b : Bool} → b ≡ false → (a && b) ≡ false
    last true q = q
    last false q = refl

-- and where it fails, it fails at one
pub below_some : {P : Type 0} (f : ℕ → Bool) (n : ℕ) → below f n ≡ false → ((k : ℕ) → k < n → f k ≡ false → P) → P
below_some f zero e one = let z : ◌≡◌ {A = ℕ} 0 1 = cc in absurd (omega arith)
below_some f (suc n) e one = by_bool (f n) (λ t. below_some f n (rw t at e) (λ k l. one k (omega arith))) (λ d. one n (omega arith) d)

-- a number at which it passes, or none
pub by_below : {P : Type 0} (f : ℕ → Bool) (n : ℕ) → ((k : ℕ) → k < n → f k ≡ true → P) → (((k : ℕ) → k < n → f k ≡ false) → P) → P
by_below f n some none =
    by_bool (below (λ k. not (f k)) n)
    (λ all. none (λ k h. not-true (f k) (below_means (λ k. not (f k)) n all k h)))
    (λ one. below_some (λ k. not (f k)) n one (λ k h e. some k h (not-false (f k) e)))
