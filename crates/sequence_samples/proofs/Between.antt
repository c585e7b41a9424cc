-- Laws of a list of samples that loops over words, blocks and sequences fill. Assumes nothing.
use mathlib.Core.Path.{◌≡◌, refl, sym, ap, ◌∙◌}
use mathlib.Core.List.{List}
use mathlib.Core.Logic.{inl, inr, ⊎_elim}
use Prim.Native.Nat.{ℕ, ◌+◌, ◌*◌, ◌≤◌, ◌<◌}
use native.Mathlib.Nat.{mul-le-mul_left}
use native.Mathlib.Omega.{arith}
use lib.IntN.{ℤ, pos}
use lib.ListN.{length, get_or, set, length-set}
use lib.Seq.{get_or-set_same, get_or-set_other, ext_get_or}
use Rattle.base.specs.Run.{tab}
use Rattle.base.proofs.Cases.{by_lt}
use Rattle.base.proofs.Runs.{length_tab, tab_at}
use Rattle.rules_format.proofs.Sound.{Half, rank_below, audio_below}
use Rattle.sequence_samples.specs.Taken.{Placed, order_of, Between}

-- ---- Placed

pub placed_none : (first step : ℕ) (g : ℕ → ℤ) (l : List ℤ) → Placed first step g 0 l l
placed_none first step g l = record { size = refl; hit = λ k h b. absurd (omega arith); miss = λ t no. refl }

-- words are a step apart
apart : (first step k w : ℕ) → 0 < step → k < w → first + step * k ≡ first + step * w → ⊥
apart first step k w p h e =
    let h' : k + 1 ≤ w = omega arith in
    let l : step * (k + 1) ≤ step * w = mul-le-mul_left step h' in
    omega arith

pub placed_more : (first step : ℕ) (g : ℕ → ℤ) (before now : List ℤ) (w t : ℕ) (x : ℤ) → Placed first step g w before now → 0 < step → t ≡ first + step * w → t < length now → x ≡ g w
    → Placed first step g (w + 1) before (set now t x)
placed_more first step g before now w t x p s et l ex =
    record {
      size = simp length-set p.size;
      hit = λ k h b.
          by_lt k w
          (λ below. get_or-set_other now t (first + step * k) x (pos 0) (λ e. apart first step k w s below (e ∙ et)) ∙ p.hit k below b)
          (λ above.
          let ek : k ≡ w = omega arith in
          let at : first + step * k ≡ t = ap (λ (j : ℕ). first + step * j) ek ∙ sym et in
          ap (λ (j : ℕ). get_or (set now t x) j (pos 0)) at ∙ get_or-set_same now t x (pos 0) l ∙ ex ∙ ap g (sym ek));
      miss = λ j no. get_or-set_other now t j x (pos 0) (λ e. no w (omega arith) (e ∙ et)) ∙ p.miss j (λ k b. no k (omega arith));
    }

-- no more than 36 words have room
pub word_within : (first step w t n : ℕ) → t ≡ first + step * w → t < n → n ≤ 36 * step → w < 36
word_within first step w t n et l r =
    by_lt w 36 (λ b. b)
    (λ above.
    let m : step * 36 ≤ step * w = mul-le-mul_left step above in
    absurd (omega arith))

pub placed_end : (first step : ℕ) (g : ℕ → ℤ) (before now : List ℤ) (w t : ℕ) → Placed first step g w before now → t ≡ first + step * w → length now ≤ t → w ≤ 36
    → Placed first step g 36 before now
placed_end first step g before now w t p et l r =
    record {
      size = p.size;
      hit = λ k h b.
          by_lt k w (λ below. p.hit k below b)
          (λ above.
          let m : step * w ≤ step * k = mul-le-mul_left step above in
          absurd (omega (arith, p.size)));
      miss = λ j no. p.miss j (λ k b. no k (omega arith));
    }

-- ---- Between

pub between_none : (s m : ℕ) (f : ℕ → ℤ) (l : List ℤ) → Between s m m f l l
between_none s m f l = record { size = refl; taken = λ t h a b. absurd (omega arith); others = λ t o. refl }

-- audio blocks from a to b, and then from b to c
pub between_next : (s a b c : ℕ) (f : ℕ → ℤ) (k l m : List ℤ) → a ≤ b → b ≤ c → Between s a b f k l → Between s b c f l m → Between s a c f k m
between_next s a b c f k l m ab bc p n =
    record {
      size = n.size ∙ p.size;
      taken = λ t h lo hi.
          by_lt (order_of s t) b
          (λ below. n.others t (inl below) ∙ p.taken t h lo below)
          (λ above. n.taken t (omega (arith, p.size)) above hi);
      others = λ t o.
          ⊎_elim
          (λ below. n.others t (inl (omega arith)) ∙ p.others t (inl below))
          (λ above. n.others t (inr above) ∙ p.others t (inr (omega arith))) o;
    }

-- what f says there, g says
pub between_same : (s a b : ℕ) (f g : ℕ → ℤ) (k l : List ℤ) → ((t : ℕ) → a ≤ order_of s t → order_of s t < b → f t ≡ g t) → Between s a b f k l → Between s a b g k l
between_same s a b f g k l e p = record { size = p.size; taken = λ t h lo hi. p.taken t h lo hi ∙ e t lo hi; others = p.others }

-- one list meets it
pub between_one : (s a b : ℕ) (f : ℕ → ℤ) (k l m : List ℤ) → Between s a b f k l → Between s a b f k m → l ≡ m
between_one s a b f k l m p n =
    ext_get_or (pos 0) l m (p.size ∙ sym n.size) (λ t h.
    let h' : t < length k = omega (arith, p.size) in
    by_lt (order_of s t) a
    (λ below. p.others t (inl below) ∙ sym (n.others t (inl below)))
    (λ from.
    by_lt (order_of s t) b
    (λ to. p.taken t h' from to ∙ sym (n.taken t h' from to))
    (λ past. p.others t (inr past) ∙ sym (n.others t (inr past)))))

-- all audio blocks of a half
pub between_all : (s : ℕ) (f : ℕ → ℤ) (k l : List ℤ) → Half s → Between s 0 (9 * s) f k l → l ≡ tab f (length k)
between_all s f k l half p =
    ext_get_or (pos 0) l (tab f (length k)) (p.size ∙ sym (length_tab f (length k))) (λ t h.
    let h' : t < length k = omega (arith, p.size) in
    p.taken t h' (omega arith) (omega (arith, rank_below s half t, audio_below s half t)) ∙ sym (tab_at (pos 0) f t (length k) h'))
