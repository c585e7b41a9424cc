-- Laws of `pick` and of a refusal table. Assumes nothing.
use mathlib.Core.Path.{◌≡◌, refl, sym, ◌∙◌}
use mathlib.Core.Bool.{Bool, true, false, ◌&&◌, ◌||◌}
use mathlib.Core.List.{List, [], ◌∷◌, ◌++◌}
use Prim.Native.Nat.{ℕ, suc}
use native.Mathlib.Omega.{arith}
use Rattle.base.specs.Pick.{pick}
use Rattle.base.specs.Calls.{Refusal, ◌when◌, first_of}
use Rattle.base.proofs.Cases.{by_bool}

-- ---- pick

pub pick_true {ℓ} : {A : Type ℓ} {b : Bool} (x y : A) → b ≡ true → pick b x y ≡ x
unfolding pick
pick_true {b = b} x y e = rw e refl

pub pick_false {ℓ} : {A : Type ℓ} {b : Bool} (x y : A) → b ≡ false → pick b x y ≡ y
unfolding pick
pick_false {b = b} x y e = rw e refl

-- what is 0 was not picked from the numbers that are not
pub pick_zero : (b : Bool) (x k : ℕ) → pick b x (suc k) ≡ 0 → (b ≡ true) × (x ≡ 0)
unfolding pick
pick_zero true x k h = (refl, h)
pick_zero false x k h = absurd (omega arith)

-- what holds of both holds of the one that is picked
pub pick_either : {A : Type 0} (P : A → Type 0) (b : Bool) {x y : A} → P x → P y → P (pick b x y)
unfolding pick
pick_either P true p q = p
pick_either P false p q = q

-- ---- first_of

-- the row whose condition holds, where it comes first
pub first_here : (b : Bool) (k : ℕ) (rs : List Refusal) → b ≡ true → first_of (k when b ∷ rs) ≡ k
unfolding first_of
first_here b k rs e = pick_true k (first_of rs) e

pub first_next : (b : Bool) (k : ℕ) (rs : List Refusal) → b ≡ false → first_of (k when b ∷ rs) ≡ first_of rs
unfolding first_of
first_next b k rs e = pick_false k (first_of rs) e

-- 0 says that the condition of no row holds
pub first_zero : (b : Bool) (k : ℕ) (rs : List Refusal) → first_of (suc k when b ∷ rs) ≡ 0 → (b ≡ false) × (first_of rs ≡ 0)
unfolding first_of pick
first_zero true k rs h = absurd (omega arith)
first_zero false k rs h = (refl, h)

-- a refusal of the first rows stands, whatever rows follow
pub first_stops : (rs more : List Refusal) → (first_of rs ≡ 0 → ⊥) → first_of (rs ++ more) ≡ first_of rs
unfolding first_of
first_stops [] more d = absurd (d refl)
first_stops (r ∷ rs) more d = by_bool r.holds (λ e. pick_true _ _ e ∙ sym (pick_true _ _ e)) (λ e. pick_false _ _ e ∙ first_stops rs more (λ z. d (pick_false _ _ e ∙ z)) ∙ sym (pick_false _ _ e))

-- ---- neither of two conditions

pub neither : (a b : Bool) → (a || b) ≡ false → (a ≡ false) × (b ≡ false)
neither true b e = let z : ◌≡◌ {A = ℕ} 0 1 = cc in absurd (omega arith)
neither false b e = (refl, e)

-- ---- both of two conditions

pub both_held : (a b : Bool) → (a && b) ≡ true → (a ≡ true) × (b ≡ true)
both_held true b e = (refl, e)
both_held false b e = let z : ◌≡◌ {A = ℕ} 0 1 = cc in absurd (omega arith)

pub both_hold : {a b : Bool} → a ≡ true → b ≡ true → (a && b) ≡ true
both_hold {a} {b} ea eb = rw (ea, eb) refl
