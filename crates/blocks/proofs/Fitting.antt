-- The ways out of the public block writers, and what they ask of the private ones. Assumes nothing.
use Rattle.std.proofs.Math.Bool.{and_assoc}
use mathlib.Core.Path.{◌≡◌, refl, sym, ◌∙◌}
use mathlib.Core.Bool.{Bool, true, false, ◌&&◌}
use mathlib.Core.List.{List}
use Prim.Native.Nat.{ℕ, ◌*◌}
use lib.Dec.{eqb, ltb, leb}
use lib.IntN.{ℤ}
use lib.ListN.{length}
use borrow.Author.Tests.{eq-eqb, ne_eqb, eqb-true, ltb-true, leb-true}
use Rattle.base.specs.Pick.{pick}
use Rattle.base.proofs.Picks.{pick_true, pick_false, both_held}
use Rattle.paper.specs.declared.System.{System}
use Rattle.rules_format.specs.Systems.{half_of, macroblocks_of}
use Rattle.sample_words.specs.Words.{words_fit}
use Rattle.blocks.specs.Asked.{NumberAsked, AudioAsked, VideoAsked}
use Rattle.blocks.specs.Fits.{number_fits, audio_fits, video_fits}

-- ---- b is whether the part fits, r what the code says of it

pub stays : (b r : Bool) (ws xs : List ℕ) → r ≡ b → r ≡ false → xs ≡ pick b ws xs
stays b r ws xs er e = sym (pick_false ws xs (sym er ∙ e))

pub fills : (b r : Bool) (ws xs zs : List ℕ) → r ≡ b → r ≡ true → zs ≡ ws → zs ≡ pick b ws xs
fills b r ws xs zs er e ez = ez ∙ sym (pick_true ws xs (sym er ∙ e))

-- ---- by the bytes of the part, and the number of the block

pub size_stays : (ws xs : List ℕ) → (length xs ≡ 80 → ⊥) → xs ≡ pick (eqb (length xs) 80) ws xs
size_stays ws xs d = sym (pick_false ws xs (ne_eqb _ _ d))

pub size_fills : (ws xs zs : List ℕ) → length xs ≡ 80 → zs ≡ ws → zs ≡ pick (eqb (length xs) 80) ws xs
size_fills ws xs zs e ez = ez ∙ sym (pick_true ws xs (eq-eqb _ _ e))

module _ (ws xs : List ℕ) (k n : ℕ) where
  pub number_stays : number_fits (length xs) k n ≡ false → xs ≡ pick (number_fits (length xs) k n) ws xs
  number_stays e = sym (pick_false ws xs e)

  pub number_fills : (zs : List ℕ) → number_fits (length xs) k n ≡ true → zs ≡ ws → zs ≡ pick (number_fits (length xs) k n) ws xs
  number_fills zs e ez = ez ∙ sym (pick_true ws xs e)

  pub number_asked : number_fits (length xs) k n ≡ true → NumberAsked xs k n
  number_asked e = let w = both_held _ _ e in record { long = eqb-true _ _ w.0; below = ltb-true _ _ w.1 }

-- ---- audio and video

-- r is whether its words fit
module _ (xs : List ℕ) (y : System) (samples : List ℤ) (a : ℕ) (r : Bool) (er : r ≡ words_fit 72 y (length samples) a) where
  audio_fit : (eqb (length xs) 80 && r) ≡ audio_fits (length xs) y (length samples) a
  unfolding audio_fits words_fit
  audio_fit = rw er (sym (and_assoc (eqb (length xs) 80) (ltb a 9) (leb (315 * half_of y) (length samples))))

  pub audio_stays : (ws : List ℕ) → (eqb (length xs) 80 && r) ≡ false → xs ≡ pick (audio_fits (length xs) y (length samples) a) ws xs
  audio_stays ws e = stays _ _ ws xs audio_fit e

  module _ (e : (eqb (length xs) 80 && r) ≡ true) where
    pub audio_fills : (ws zs : List ℕ) → zs ≡ ws → zs ≡ pick (audio_fits (length xs) y (length samples) a) ws xs
    audio_fills ws zs ez = fills _ _ ws xs zs audio_fit e ez

    pub audio_asked : AudioAsked xs 80 y samples a
    unfolding audio_fits
    audio_asked =
        let w = both_held _ _ (sym audio_fit ∙ e) in
        let u = both_held _ _ w.0 in
        record { long = eqb-true _ _ u.0; below = ltb-true _ _ u.1; turns = leb-true _ _ w.1 }

pub video_fit : (size : ℕ) (y : System) (bytes n : ℕ) → n ≡ macroblocks_of y → (eqb size 80 && eqb bytes (77 * n)) ≡ video_fits size y bytes
unfolding video_fits
video_fit size y bytes n en = rw en refl

pub video_asked : (xs : List ℕ) (y : System) (macroblocks : List ℕ) (r : Bool) → r ≡ video_fits (length xs) y (length macroblocks) → r ≡ true → VideoAsked xs y macroblocks
unfolding video_fits
video_asked xs y macroblocks r er e = let w = both_held _ _ (sym er ∙ e) in record { long = eqb-true _ _ w.0; pictures = eqb-true _ _ w.1 }
