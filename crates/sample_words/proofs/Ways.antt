-- Each way out of the functions, by what their callees left. Assumes nothing.
use mathlib.Core.Path.{◌≡◌, refl, sym, ap, ◌∙◌}
use mathlib.Core.Bool.{Bool, true, false, not, ◌&&◌}
use mathlib.Core.List.{List, [], ◌∷◌}
use Prim.Native.Nat.{ℕ, ◌+◌, ◌-◌, ◌*◌, ◌%◌, ◌^◌, ◌≤◌, ◌<◌}
use native.Mathlib.Nat.{mod-eq_of_lt, mod-lt, mul-le-mul_left, le_antisymm}
use native.Mathlib.Omega.{arith}
use lib.Dec.{eqb, ltb, leb}
use lib.IntN.{ℤ, pos}
use lib.Signed.{mag}
use lib.ListN.{length, get_or, set}
use mir.Syntax.{w32, w64}
use mir.Val.{to_z, of_z, Fits}
use mir.ValLaws.{to_z-of_z}
use borrow.Author.Tests.{lt-ltb, le-ltb, not-true, not-false}
use borrow.Rule.Slice.PartMut.{put_mid}
use Rattle.base.specs.Pick.{pick}
use Rattle.base.proofs.Picks.{pick_true, pick_false}
use Rattle.base.proofs.Filling.{Filled, filled_next}
use Rattle.base.proofs.Parts.{all_set}
use Rattle.paper.specs.declared.System.{System}
use Rattle.rules_format.specs.Systems.{half_of}
use Rattle.rules_format.specs.Samples.{word_for, bytes_of}
use Rattle.rules_format.specs.Sound.{rank_at, first_at}
use Rattle.rules_writes.specs.Written.{sample_word, word_bytes}
use Rattle.rules_format.proofs.Systems.{half_cases}
use Rattle.rules_format.proofs.Samples.{word_below}
use Rattle.rules_format.proofs.Sound.{Half, half_some, half_le, first_below}
use Rattle.sample_words.specs.Words.{filled_with, word_pair, pairs_put, words_put, words_fit}
use Rattle.sample_words.specs.Asked.{WordsAsked}
use Rattle.sample_words.proofs.Words.{fit_says}

-- ---- put_word

pub two_set : (xs : List ℕ) (a b : ℕ) → length xs ≡ 2 → set (set xs 0 a) 1 b ≡ a ∷ b ∷ []
two_set xs a b = all_set xs (a ∷ b ∷ [])

-- ---- put_words

pub word_for_below : (z : ℤ) (x : ℕ) → x ≡ word_for z → x < 65536
word_for_below z x e = rw e (word_below z)

-- the number that was read is in 32 bits
read_back : (xs : List ℤ) (t x : ℕ) → mag (get_or xs t (pos 0)) < 2 ^ 31 → x ≡ word_for (to_z w32 (of_z w32 (get_or xs t (pos 0)))) → x ≡ word_for (get_or xs t (pos 0))
read_back xs t x low e = rw (to_z-of_z w32 (get_or xs t (pos 0)) (record { sfits = low })) at e

word_here : (xs : List ℤ) (t x : ℕ) → t < length xs → mag (get_or xs t (pos 0)) < 2 ^ 31 → x ≡ word_for (to_z w32 (of_z w32 (get_or xs t (pos 0)))) → x ≡ sample_word xs t
unfolding sample_word
word_here xs t x h low e = read_back xs t x low e ∙ sym (pick_true _ _ (lt-ltb t (length xs) h))

-- word w is sample t = step * w + first
module _ (xs : List ℤ) (first step t w : ℕ) (at : t ≡ step * w + first) (start : first < step) (turns : step * 35 ≤ length xs) where
  pub sample_within : w < 35 → t < length xs
  sample_within h =
      let l : step * (w + 1) ≤ step * 35 = mul-le-mul_left step (omega arith) in
      omega arith

  pub sample_next : t + step ≡ step * (w + 1) + first
  sample_next = omega arith

  pub sample_fits : w < 35 → step ≤ 54 → Fits w64 (t + step)
  sample_fits h few =
      let l : step * w ≤ step * 35 = mul-le-mul_left step (omega arith) in
      omega arith

  module _ (d part : List ℕ) (ex : Filled 2 (word_pair xs first step) w d part) where
    pub word_put : (ys : List ℕ) (x : ℕ) → t < length xs → mag (get_or xs t (pos 0)) < 2 ^ 31 → x ≡ word_for (to_z w32 (of_z w32 (get_or xs t (pos 0)))) → ys ≡ bytes_of x
        → Filled 2 (word_pair xs first step) (w + 1) d (put_mid (w * 2) (w * 2 + 2 - w * 2) part ys)
    unfolding word_pair
    word_put ys x h low ew ey = filled_next 2 (word_pair xs first step) (λ i. refl) w d part ys ex (ey ∙ ap bytes_of (word_here xs t x h low ew ∙ ap (sample_word xs) at))

    -- after 35 turns the last word is written, or it is past the count
    module _ (le : w ≤ 35) (ge : 35 ≤ w) where
      turned : w ≡ 35
      turned = le_antisymm le ge

      t_last : t ≡ step * 35 + first
      t_last = at ∙ ap (λ (i : ℕ). step * i + first) turned

      pub last_put : (ys : List ℕ) (x : ℕ) → t < length xs → mag (get_or xs t (pos 0)) < 2 ^ 31 → x ≡ word_for (to_z w32 (of_z w32 (get_or xs t (pos 0)))) → ys ≡ bytes_of x
          → put_mid 70 2 part ys ≡ pairs_put xs first step d
      unfolding pairs_put
      last_put ys x h low ew ey =
          let all : ltb (step * 35 + first) (length xs) ≡ true = rw t_last at (lt-ltb t (length xs) h) in
          rw turned at (word_put ys x h low ew ey) ∙ ap (λ (n : ℕ). filled_with (word_pair xs first step) n d) (sym (pick_true 36 35 all))

      pub last_past : length xs ≤ t → part ≡ pairs_put xs first step d
      unfolding pairs_put
      last_past h =
          let but_one : ltb (step * 35 + first) (length xs) ≡ false = rw t_last at (le-ltb t (length xs) h) in
          rw turned at ex ∙ ap (λ (n : ℕ). filled_with (word_pair xs first step) n d) (sym (pick_false 36 35 but_one))

-- ---- words_fit

pub fit_is : (size : ℕ) (y : System) (samples a s : ℕ) → s ≡ half_of y → ((eqb size 72 && ltb a 9) && leb (315 * s) samples) ≡ words_fit size y samples a
unfolding words_fit
fit_is size y samples a s es = rw es refl

-- ---- put_samples: r is whether the part fits

pub stays : (b r : Bool) (ws xs : List ℕ) → r ≡ b → not r ≡ true → xs ≡ pick b ws xs
stays b r ws xs er e = sym (pick_false ws xs (sym er ∙ not-true _ e))

module _ (y : System) (samples : List ℤ) (q a s first : ℕ) (es : s ≡ half_of y) (ef : first ≡ first_at (half_of y) (rank_at (half_of y) q) (a % 9)) (part : List ℕ)
    (r : Bool) (er : r ≡ words_fit (length part) y (length samples) a) (fits : not r ≡ false) where
  said : (length part ≡ 72) × (a < 9) × (315 * half_of y ≤ length samples)
  said = fit_says (length part) y (length samples) a (sym er ∙ not-false _ fits)

  first_is : first ≡ first_at (half_of y) (rank_at (half_of y) q) a
  first_is = ef ∙ rw (mod-eq_of_lt said.1) refl

  pub words_asked : WordsAsked part samples first (9 * s)
  words_asked =
      let half : Half (half_of y) = half_cases y in
      record {
        long = said.0;
        turns = omega (arith, es, said.2);
        start = rw (first_is, es) (first_below (half_of y) half (rank_at (half_of y) q) a (mod-lt q (half_some (half_of y) half)) said.1);
        few = omega (arith, es, half_le (half_of y) half);
      }

  words_same : pairs_put samples first (9 * s) part ≡ words_put y samples q a part
  unfolding pairs_put words_put word_pair word_bytes
  words_same = rw (first_is, es) refl

  pub words_are : (ws : List ℕ) → ws ≡ pairs_put samples first (9 * s) part → ws ≡ pick (words_fit (length part) y (length samples) a) (words_put y samples q a part) part
  words_are ws e = e ∙ words_same ∙ sym (pick_true _ _ (sym er ∙ not-false _ fits))
