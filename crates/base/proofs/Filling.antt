-- A list that a loop fills part by part: what comes first is written, and the rest is as it was. Assumes nothing.
use mathlib.Core.Path.{◌≡◌, refl, sym, ap, ◌∙◌}
use mathlib.Core.List.{List, [], ◌∷◌, ◌++◌, append_assoc, append-nil}
use Prim.Native.Nat.{ℕ, zero, suc, ◌+◌, ◌-◌, ◌*◌, ◌≤◌, ◌<◌}
use native.Mathlib.Nat.{add-mul, one-mul, zero-mul, add-sub_cancel_left, le_antisymm, not-suc-le-zero, le_of_suc-le-suc}
use native.Mathlib.Numerals.{add-one}
use native.Mathlib.Omega.{arith}
use lib.ListN.{length, take, drop, set, replicate}
use lib.Seq.{take_at, drop_at, drop-drop, drop-length}
use Rattle.base.specs.Run.{run, Wide}
use Rattle.base.proofs.Runs.{run_more, length_run}

next_start : (k w : ℕ) → (k + 1) * w ≡ k * w + w
next_start k w = add-mul k 1 w ∙ ap (λ (n : ℕ). k * w + n) (one-mul w)

module _ {A : Type 0} where
  -- of `before`, the first k parts are f 0 to f (k - 1) now
  abbrev pub Filled : ℕ → (ℕ → List A) → ℕ → List A → List A → Type 0
  Filled w f k before now = now ≡ run f k ++ drop (k * w) before

  pub filled_none : (w : ℕ) (f : ℕ → List A) (d : List A) → Filled w f 0 d d
  unfolding run
  filled_none w f d = ap (λ (n : ℕ). drop n d) (sym (zero-mul w))

  -- a turn of the loop: part k is lent from a, m elements of it, and comes back as f k
  filled_more : (w : ℕ) (f : ℕ → List A) → Wide w f → (k : ℕ) (d xs ys : List A) (a m : ℕ) → Filled w f k d xs → ys ≡ f k → a ≡ k * w → m ≡ w
      → Filled w f (k + 1) d (take a xs ++ (ys ++ drop m (drop a xs)))
  filled_more w f s k d xs ys a m ex ey ea em =
      let n : length (run f k) ≡ k * w = length_run w f s k in
      rw (ex, ey, ea, em, take_at (run f k) (drop (k * w) d) (k * w) n, drop_at (run f k) (drop (k * w) d) (k * w) n, drop-drop, next_start, run_more, append_assoc) refl

  -- the same as `&mut s[at..to]` lends it, with at = k * w and to = at + w
  pub filled_next : (w : ℕ) (f : ℕ → List A) → Wide w f → (k : ℕ) (d xs ys : List A) → Filled w f k d xs → ys ≡ f k
      → Filled w f (k + 1) d (take (k * w) xs ++ (ys ++ drop (k * w + w - k * w) (drop (k * w) xs)))
  filled_next w f s k d xs ys ex ey = filled_more w f s k d xs ys (k * w) (k * w + w - k * w) ex ey refl (add-sub_cancel_left (k * w) w)

  -- after the last part, where they fill d, the run is the whole
  pub filled_end : (w : ℕ) (f : ℕ → List A) (k m : ℕ) (d xs : List A) → Filled w f k d xs → length d ≡ m * w → k ≤ m → m ≤ k → xs ≡ run f m
  filled_end w f k m d xs ex n le ge =
      let e : k ≡ m = le_antisymm le ge in
      let n' : length d ≡ k * w = n ∙ ap (λ (i : ℕ). i * w) (sym e) in
      rw (← e) (ex ∙ rw (← n', drop-length) (append-nil (run f k)))
