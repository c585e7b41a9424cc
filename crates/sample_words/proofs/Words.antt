-- Laws of the words of an audio block: when a part fits them, how long it is afterwards, and when it has all 36. Assumes nothing.
use mathlib.Core.Path.{◌≡◌, refl, sym, ap, ◌∙◌}
use mathlib.Core.Bool.{true}
use mathlib.Core.List.{List, [], ◌∷◌, append-nil}
use Prim.Native.Nat.{ℕ, ◌*◌, ◌≤◌, ◌<◌}
use native.Mathlib.Omega.{arith}
use lib.IntN.{ℤ}
use lib.ListN.{length, drop, length-append, length-drop}
use borrow.Author.Tests.{eq-eqb, lt-ltb, le-ltb, le-leb, eqb-true, ltb-true, leb-true}
use Rattle.base.specs.Pick.{pick}
use Rattle.base.specs.Run.{run}
use Rattle.base.proofs.Cases.{by_lt}
use Rattle.base.proofs.Picks.{pick_true, pick_false, pick_either, both_held, both_hold}
use Rattle.base.proofs.Runs.{run_more, length_run}
use Rattle.base.proofs.Parts.{none_left}
use Rattle.paper.specs.declared.System.{System}
use Rattle.rules_format.specs.Systems.{half_of}
use Rattle.rules_format.specs.Sound.{rank_at, sample_at}
use Rattle.rules_writes.specs.Written.{sample_word, word_bytes}
use Rattle.rules_writes.proofs.Written.{word_wide}
use Rattle.sample_words.specs.Words.{filled_with, words_put, words_fit}

-- ---- words_fit: what it says, and when it holds

module _ (size : ℕ) (y : System) (n a : ℕ) where
  pub fit_says : words_fit size y n a ≡ true → (size ≡ 72) × (a < 9) × (315 * half_of y ≤ n)
  unfolding words_fit
  fit_says e =
      let w = both_held _ _ e in
      let u = both_held _ _ w.0 in
      (eqb-true _ _ u.0, ltb-true _ _ u.1, leb-true _ _ w.1)

  pub fit_holds : size ≡ 72 → a < 9 → 315 * half_of y ≤ n → words_fit size y n a ≡ true
  unfolding words_fit
  fit_holds e h turns = both_hold (both_hold (eq-eqb size 72 e) (lt-ltb a 9 h)) (le-leb (315 * half_of y) n turns)

-- ---- words_put: in a part that fits

word_past : (xs : List ℤ) (t : ℕ) → length xs ≤ t → 0 ≡ sample_word xs t
unfolding sample_word
word_past xs t h = sym (pick_false _ _ (le-ltb t (length xs) h))

module _ (y : System) (samples : List ℤ) (q a : ℕ) (part : List ℕ) (long : length part ≡ 72) where
  -- the first n words
  abbrev filled : ℕ → List ℕ
  filled n = filled_with (word_bytes y samples q a) n part

  filled_length : (n : ℕ) → n * 2 ≤ 72 → length (filled n) ≡ 72
  filled_length n h = omega (arith, length-append (run (word_bytes y samples q a) n) (drop (n * 2) part), length_run 2 (word_bytes y samples q a) (word_wide y samples q a) n, length-drop (n * 2) part)

  pub put_length : length (words_put y samples q a part) ≡ 72
  unfolding words_put
  put_length = pick_either (λ (n : ℕ). length (filled n) ≡ 72) _ (filled_length 36 (omega arith)) (filled_length 35 (omega arith))

  -- all 36, where the last word of the part is 0: so is that of a position past the count
  pub put_all : drop 70 part ≡ 0 ∷ 0 ∷ [] → words_put y samples q a part ≡ run (word_bytes y samples q a) 36
  unfolding words_put word_bytes
  put_all tail =
      let t : ℕ = sample_at (half_of y) (rank_at (half_of y) q) a 35 in
      by_lt t (length samples)
      (λ h. ap filled (pick_true 36 35 (lt-ltb t (length samples) h)) ∙ rw (none_left 72 part long) (append-nil _))
      (λ h. ap filled (pick_false 36 35 (le-ltb t (length samples) h)) ∙ rw (tail, run_more (word_bytes y samples q a) 35, ← word_past samples t h) refl)

  -- what `put_samples` leaves
  pub put_fits : a < 9 → 315 * half_of y ≤ length samples → pick (words_fit (length part) y (length samples) a) (words_put y samples q a part) part ≡ words_put y samples q a part
  put_fits h turns = pick_true _ _ (fit_holds (length part) y (length samples) a long h turns)
