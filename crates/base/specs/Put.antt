-- A list with other elements from one of its places on, and the turns of a loop.
use Rattle.std.specs.Prelude.{List, ◌++◌, ℕ, zero, suc, ◌+◌, length, take, drop}

-- the list with ys from its element i on
unfoldable pub put_at : {A : Type 0} → ℕ → List A → List A → List A
put_at i ys xs = take i xs ++ (ys ++ drop (i + length ys) xs)

-- f 0, then f 1, .. then f (k - 1)
unfoldable pub turns : {A : Type 0} → (ℕ → A → A) → ℕ → A → A
turns f zero x = x
turns f (suc k) x = f k (turns f k x)
