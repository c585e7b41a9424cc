-- A list that is made part by part, in order, as a loop appends.
use Rattle.std.specs.Prelude.{◌≡◌, List, [], ◌∷◌, ◌++◌, ℕ, zero, suc, length}

-- f 0, f 1, .. f (k - 1), one after the other
unfoldable pub run : {A : Type 0} → (ℕ → List A) → ℕ → List A
run f zero = []
run f (suc k) = run f k ++ f k

-- each part has w elements
abbrev pub Wide : {A : Type 0} → ℕ → (ℕ → List A) → Type 0
Wide w f = (k : ℕ) → length (f k) ≡ w

-- g 0, g 1, .. g (k - 1)
unfoldable pub tab : {A : Type 0} → (ℕ → A) → ℕ → List A
tab g k = run (λ (i : ℕ). g i ∷ []) k
