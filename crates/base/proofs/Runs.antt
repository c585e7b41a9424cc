-- Laws of runs. Assumes nothing.
use mathlib.Core.Path.{◌≡◌, refl, sym, ap, ◌∙◌}
use mathlib.Core.List.{List, [], ◌∷◌, ◌++◌, append_assoc, append-nil}
use mathlib.Core.Logic.{◌⊎◌, inl, inr, ⊎_elim}
use Prim.Native.Nat.{ℕ, zero, suc, ◌+◌, ◌*◌, ◌/◌, ◌%◌, ◌≤◌, ◌<◌}
use native.Mathlib.Nat.{add-zero, add-suc, mul-zero, mul-suc, mul-add-div, mul-add-mod_self_left, div-eq_of_lt, mod-eq_of_lt, suc-mul, zero-mul, mul-one, mul-le-mul_right, not-suc-le-zero}
use native.Mathlib.Numerals.{add-one}
use native.Mathlib.Omega.{arith}
use lib.ListN.{length, take, drop, get_or, replicate, length-append, length-drop, length-replicate, get_or-replicate}
use lib.Seq.{take-add, take-append-le, drop-append-le, drop_at, take_all, get_or-take, get_or-drop, ext_get_or, length-take-le}
use Rattle.base.specs.Run.{run, Wide, tab}
use Rattle.base.proofs.Cases.{by_eq}
use Rattle.base.proofs.Parts.{part_part}

pub below_or : (j k : ℕ) → j < suc k → (j < k) ⊎ (j ≡ k)
below_or j k h = by_eq j k (λ e. inr e) (λ d. inl (omega (arith, d)))

-- the end of part j is within k parts
pub end_within : (w j k : ℕ) → j < k → j * w + w ≤ k * w
end_within w j k h = let e : suc j * w ≤ k * w = mul-le-mul_right w h in omega (arith, suc-mul j w)

module _ {A : Type 0} where
  pub run_zero : (f : ℕ → List A) → run f 0 ≡ []
  unfolding run
  run_zero f = refl

  pub run_more : (f : ℕ → List A) (k : ℕ) → run f (k + 1) ≡ run f k ++ f k
  unfolding run
  run_more f k = rw add-one

  -- a run of parts of at most m elements
  pub run_length_le : (f : ℕ → List A) (m k : ℕ) → ((j : ℕ) → length (f j) ≤ m) → length (run f k) ≤ k * m
  unfolding run
  run_length_le f m zero h = omega (arith, zero-mul m)
  run_length_le f m (suc k) h = omega (arith, length-append (run f k) (f k), run_length_le f m k h, h k, suc-mul k m)

  -- runs of the same parts are the same
  pub run_same : (f g : ℕ → List A) (k : ℕ) → ((j : ℕ) → j < k → f j ≡ g j) → run f k ≡ run g k
  unfolding run
  run_same f g zero h = refl
  run_same f g (suc k) h =
      let i = run_same f g k (λ j l. h j (omega arith)) in
      let j = h k (omega arith) in
      rw (i, j)

  -- a run of nothing is nothing
  pub run_none : (f : ℕ → List A) (k : ℕ) → ((j : ℕ) → j < k → f j ≡ []) → run f k ≡ []
  unfolding run
  run_none f zero h = refl
  run_none f (suc k) h =
      let i = run_none f k (λ j l. h j (omega arith)) in
      let j = h k (omega arith) in
      rw (i, j)

  -- a run in two goes
  pub run_split : (f : ℕ → List A) (a m : ℕ) → run f (a + m) ≡ run f a ++ run (λ (i : ℕ). f (a + i)) m
  unfolding run
  run_split f a zero = rw (add-zero, append-nil)
  run_split f a (suc m) = rw add-suc (ap (λ (l : List A). l ++ f (a + m)) (run_split f a m) ∙ append_assoc (run f a) (run (λ (i : ℕ). f (a + i)) m) (f (a + m)))

  -- a run of runs of n is one run
  pub run_runs : (f : ℕ → ℕ → List A) (n h : ℕ) → 0 < n → run (λ (k : ℕ). f (k / n) (k % n)) (n * h) ≡ run (λ (r : ℕ). run (f r) n) h
  unfolding run
  run_runs f n zero p = rw mul-zero
  run_runs f n (suc h) p =
      let row : (i : ℕ) → i < n → f ((n * h + i) / n) ((n * h + i) % n) ≡ f h i =
      λ i l. rw (mul-add-div p h i, mul-add-mod_self_left n h i, div-eq_of_lt l, mod-eq_of_lt l, add-zero) in
      rw mul-suc
      (run_split (λ k. f (k / n) (k % n)) (n * h) n
      ∙ rw (run_runs f n h p, run_same (λ i. f ((n * h + i) / n) ((n * h + i) % n)) (f h) n row))

  -- a list is the run of its parts
  pub run_parts : (w k : ℕ) (l : List A) → run (λ (j : ℕ). take w (drop (j * w) l)) k ≡ take (k * w) l
  unfolding run
  run_parts w zero l = rw zero-mul
  run_parts w (suc k) l = rw (run_parts w k l, suc-mul) (sym (take-add (k * w) w l))

  -- ---- parts of w elements each

  pub length_run : (w : ℕ) (f : ℕ → List A) → Wide w f → (k : ℕ) → length (run f k) ≡ k * w
  unfolding run
  length_run w f s zero = sym (zero-mul w)
  length_run w f s (suc k) = length-append (run f k) (f k) ∙ omega (arith, length_run w f s k, s k, suc-mul k w)

  -- part j of a run is f j
  pub run_at : (w : ℕ) (f : ℕ → List A) → Wide w f → (j k : ℕ) → j < k → take w (drop (j * w) (run f k)) ≡ f j
  unfolding run
  run_at w f s j zero h = absurd (not-suc-le-zero h)
  run_at w f s j (suc k) h =
      let n : length (run f k) ≡ k * w = length_run w f s k in
      ⊎_elim
      (λ (lt : j < k).
      let e = end_within w j k lt in
      let d : j * w ≤ length (run f k) = omega arith in
      let t : w ≤ length (drop (j * w) (run f k)) = simp length-drop (omega arith) in
      rw (drop-append-le, take-append-le) (run_at w f s j k lt))
      (λ (eq : j ≡ k).
      rw (eq, drop_at (run f k) (f k) (k * w) n) (take_all w (f k) (omega (arith, s k))))
      (below_or j k h)

  -- a part of part j, by its start in the run
  pub run_part : (w : ℕ) (f : ℕ → List A) → Wide w f → (j k a m : ℕ) → j < k → a + m ≤ w → take m (drop (j * w + a) (run f k)) ≡ take m (drop a (f j))
  run_part w f s j k a m h r = sym (part_part (j * w) w a m (run f k) r) ∙ ap (λ (l : List A). take m (drop a l)) (run_at w f s j k h)

  -- an element of part j, by its index in the run
  pub run_element : (d : A) (w : ℕ) (f : ℕ → List A) → Wide w f → (j k i : ℕ) → j < k → i < w → get_or (run f k) (j * w + i) d ≡ get_or (f j) i d
  run_element d w f s j k i h r =
      sym (get_or-drop (j * w) (run f k) i d)
      ∙ sym (get_or-take w (drop (j * w) (run f k)) i d r)
      ∙ ap (λ (l : List A). get_or l i d) (run_at w f s j k h)

  -- ---- tab

  one_wide : (g : ℕ → A) → Wide 1 (λ (i : ℕ). g i ∷ [])
  one_wide g k = refl

  pub length_tab : (g : ℕ → A) (k : ℕ) → length (tab g k) ≡ k
  unfolding tab
  length_tab g k = length_run 1 (λ (i : ℕ). g i ∷ []) (one_wide g) k ∙ mul-one k

  pub tab_at : (d : A) (g : ℕ → A) (i k : ℕ) → i < k → get_or (tab g k) i d ≡ g i
  unfolding tab
  tab_at d g i k h = simp (mul-one, add-zero) at (run_element d 1 (λ (j : ℕ). g j ∷ []) (one_wide g) i k 0 h (omega arith))

  pub tab_same : (f g : ℕ → A) (k : ℕ) → ((i : ℕ) → i < k → f i ≡ g i) → tab f k ≡ tab g k
  unfolding tab
  tab_same f g k h = run_same _ _ k (λ i l. ap (λ (x : A). x ∷ []) (h i l))

  pub tab_constant : (v : A) (k : ℕ) → tab (λ (i : ℕ). v) k ≡ replicate k v
  tab_constant v k =
      ext_get_or v _ _ (length_tab (λ (i : ℕ). v) k ∙ sym (length-replicate k v)) (λ i h.
      let b : i < k = omega (arith, length_tab (λ (i : ℕ). v) k) in
      tab_at v (λ (i : ℕ). v) i k b ∙ sym (get_or-replicate k i v v b))

  -- a part of a list, by its elements
  pub tab_part : (d : A) (l : List A) (a m : ℕ) → a + m ≤ length l → tab (λ (i : ℕ). get_or l (a + i) d) m ≡ take m (drop a l)
  tab_part d l a m h =
      let g : ℕ → A = λ i. get_or l (a + i) d in
      ext_get_or d _ _ (length_tab g m ∙ sym (length-take-le m (drop a l) (simp length-drop (omega arith))))
      (λ i b.
      let b' : i < m = omega (arith, length_tab g m) in
      tab_at d g i m b' ∙ sym (get_or-take m (drop a l) i d b' ∙ get_or-drop a l i d))
