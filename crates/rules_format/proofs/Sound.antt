-- The place of a sample and its inverse, once over s = n/2: of t = 9 s w + u the sequence and the audio block are those of u, and
-- the word is w; the rest is a test at the 9 s numbers u, which antt computes. Assumes nothing.
use mathlib.Core.Path.{◌≡◌, sym, ap, ap₂, ◌∙◌, subst}
use mathlib.Core.Logic.{◌⊎◌, ⊎_elim}
use mathlib.Core.Bool.{Bool}
use Prim.Native.Nat.{ℕ, ◌+◌, ◌*◌, ◌/◌, ◌%◌, ◌<◌, ◌≤◌}
use native.Mathlib.Nat.{mul-add-mod_self_left, mul-add-div, mod-lt, mod-eq_of_lt, div-eq_of_lt, div-add-mod, div-lt_iff_lt-mul, mul-le-mul_right, mul-le-mul_left}
use native.Mathlib.Omega.{arith}
use lib.Dec.{T, eqb, ltb, eqb→eq, ltb→lt, lit<}
use Rattle.base.specs.Below.{below}
use Rattle.base.proofs.Below.{below_at}
use Rattle.rules_format.specs.Sound.{dif_of, half_at, rank_of, audio_of, word_number, audio_at, rank_at, first_at, sample_at}

-- ---- s

abbrev pub Half : ℕ → Type 0
Half s = (s ≡ 5) ⊎ (s ≡ 6)

pub half_some : (s : ℕ) → Half s → 0 < s
half_some s = ⊎_elim (λ e. omega arith) (λ e. omega arith)

pub half_ge : (s : ℕ) → Half s → 5 ≤ s
half_ge s = ⊎_elim (λ e. omega arith) (λ e. omega arith)

pub half_le : (s : ℕ) → Half s → s ≤ 6
half_le s = ⊎_elim (λ e. omega arith) (λ e. omega arith)

-- a test that passes at 5 and at 6 passes at s
by_half : (f : ℕ → ℕ → Bool) → T (below (f 5) 45) → T (below (f 6) 54) → (s : ℕ) → Half s → (u : ℕ) → u < 9 * s → T (f s u)
by_half f p q s half u h =
    ⊎_elim
    (λ (e : s ≡ 5). subst (λ (x : ℕ). T (f x u)) (sym e) (below_at (f 5) 45 p u (omega arith)))
    (λ (e : s ≡ 6). subst (λ (x : ℕ). T (f x u)) (sym e) (below_at (f 6) 54 q u (omega arith))) half

-- ---- a turn of 9 s samples

module _ (s w u : ℕ) (p : 0 < s) (h : u < 9 * s) where
  turn_word : word_number s (9 * s * w + u) ≡ w
  turn_word = mul-add-div (omega arith) w u ∙ ap (λ (x : ℕ). w + x) (div-eq_of_lt h) ∙ omega arith

  turn_rest : (9 * s * w + u) % (9 * s) ≡ u
  turn_rest = mul-add-mod_self_left (9 * s) w u ∙ mod-eq_of_lt h

  thrice : 9 * s * w + u ≡ 3 * (3 * s * w) + u
  thrice = omega arith

  turn_third : (9 * s * w + u) % 3 ≡ u % 3
  turn_third = ap (λ (x : ℕ). x % 3) thrice ∙ mul-add-mod_self_left 3 (3 * s * w) u

  turn_div : (9 * s * w + u) / 3 ≡ 3 * s * w + u / 3
  turn_div = ap (λ (x : ℕ). x / 3) thrice ∙ mul-add-div (lit< tt) (3 * s * w) u

  turn_audio : audio_of s (9 * s * w + u) ≡ audio_of s u
  turn_audio = rw (turn_third, turn_rest, mod-eq_of_lt h)

  turn_rank : rank_of s (9 * s * w + u) ≡ rank_of s u
  turn_rank = rw (turn_third, turn_div) (ap (λ (x : ℕ). x % s) thirds ∙ mul-add-mod_self_left s (3 * w) (u / 3 + 2 * (u % 3)))
    where
      thirds : 3 * s * w + u / 3 + 2 * (u % 3) ≡ s * (3 * w) + (u / 3 + 2 * (u % 3))
      thirds = omega arith

-- ---- sample_at: a sample is where the inverse says

is_first : ℕ → ℕ → Bool
is_first s u = eqb (first_at s (rank_of s u) (audio_of s u)) u

is_block : ℕ → ℕ → Bool
is_block s u = ltb (audio_of s u) 9

module _ (s : ℕ) (half : Half s) where
  turn_some : 0 < 9 * s
  turn_some = omega (arith, half_some s half)

  module _ (t : ℕ) where
    w : ℕ
    w = t / (9 * s)

    u : ℕ
    u = t % (9 * s)

    u_below : u < 9 * s
    unfolding u
    u_below = mod-lt t turn_some

    parts : 9 * s * w + u ≡ t
    unfolding w u
    parts = div-add-mod t (9 * s)

    same_rank : rank_of s t ≡ rank_of s u
    same_rank = ap (rank_of s) (sym parts) ∙ turn_rank s w u (half_some s half) u_below

    same_audio : audio_of s t ≡ audio_of s u
    same_audio = ap (audio_of s) (sym parts) ∙ turn_audio s w u (half_some s half) u_below

    pub sample_back : sample_at s (rank_of s t) (audio_of s t) (word_number s t) ≡ t
    unfolding is_first w
    sample_back =
        ap₂ (λ (x y : ℕ). sample_at s x y (t / (9 * s))) same_rank same_audio
        ∙ ap (λ (x : ℕ). 9 * s * (t / (9 * s)) + x) (eqb→eq _ _ (by_half is_first tt tt s half u u_below)) ∙ parts

    pub rank_below : rank_of s t < s
    rank_below = mod-lt (t / 3 + 2 * (t % 3)) (half_some s half)

    pub audio_below : audio_of s t < 9
    unfolding is_block
    audio_below = subst (λ (x : ℕ). x < 9) (sym same_audio) (ltb→lt _ _ (by_half is_block tt tt s half u u_below))

    pub word_below : t < 36 * (9 * s) → word_number s t < 36
    word_below h = (div-lt_iff_lt-mul turn_some).1 h

-- ---- rank_of, audio_of, word_number: the sample at a place has that place

-- audio block a of the sequence of rank r is number 9 r + a of a half
within_turn : ℕ → ℕ → Bool
within_turn s m = ltb (first_at s (m / 9) (m % 9)) (9 * s)

rank_returns : ℕ → ℕ → Bool
rank_returns s m = eqb (rank_of s (first_at s (m / 9) (m % 9))) (m / 9)

block_returns : ℕ → ℕ → Bool
block_returns s m = eqb (audio_of s (first_at s (m / 9) (m % 9))) (m % 9)

module _ (s : ℕ) (half : Half s) (r a : ℕ) (hr : r < s) (ha : a < 9) where
  m : ℕ
  m = 9 * r + a

  m_below : m < 9 * s
  unfolding m
  m_below = omega arith

  m_rank : m / 9 ≡ r
  unfolding m
  m_rank = omega arith

  m_block : m % 9 ≡ a
  unfolding m
  m_block = omega arith

  first_is : first_at s (m / 9) (m % 9) ≡ first_at s r a
  first_is = ap₂ (first_at s) m_rank m_block

  pub first_below : first_at s r a < 9 * s
  unfolding within_turn
  first_below = subst (λ (x : ℕ). x < 9 * s) first_is (ltb→lt _ _ (by_half within_turn tt tt s half m m_below))

  module _ (w : ℕ) where
    pub rank_sample : rank_of s (sample_at s r a w) ≡ r
    unfolding rank_returns
    rank_sample =
        turn_rank s w (first_at s r a) (half_some s half) first_below ∙ ap (rank_of s) (sym first_is)
        ∙ eqb→eq _ _ (by_half rank_returns tt tt s half m m_below) ∙ m_rank

    pub audio_sample : audio_of s (sample_at s r a w) ≡ a
    unfolding block_returns
    audio_sample =
        turn_audio s w (first_at s r a) (half_some s half) first_below ∙ ap (audio_of s) (sym first_is)
        ∙ eqb→eq _ _ (by_half block_returns tt tt s half m m_below) ∙ m_block

    pub word_sample : word_number s (sample_at s r a w) ≡ w
    word_sample = turn_word s w (first_at s r a) (half_some s half) first_below

    pub sample_below : w < 36 → sample_at s r a w < 36 * (9 * s)
    sample_below hw =
        let g : w + 1 ≤ 36 = omega arith in
        let l : (w + 1) * (9 * s) ≤ 36 * (9 * s) = mul-le-mul_right (9 * s) g in
        omega (arith, first_below)

-- ---- audio_at, rank_at: the audio channel of a sequence, and its rank there

-- the sequence of rank r of audio channel c's half is sequence s · half_at c + r of its DIF channel
module _ (s c r : ℕ) (half : Half s) (hr : r < s) where
  half_sequence : (s * half_at c + r) / s ≡ half_at c
  half_sequence = mul-add-div (half_some s half) (half_at c) r ∙ ap (λ (x : ℕ). half_at c + x) (div-eq_of_lt hr) ∙ omega arith

  pub rank_sequence_lem : rank_at s (s * half_at c + r) ≡ r
  rank_sequence_lem = mul-add-mod_self_left s (half_at c) r ∙ mod-eq_of_lt hr

  pub audio_sequence : 0 < c → audio_at s (dif_of c) (s * half_at c + r) ≡ c
  audio_sequence hc = ap (λ (x : ℕ). 2 * dif_of c + x + 1) half_sequence ∙ omega arith

  pub sequence_below : s * half_at c + r < 2 * s
  sequence_below =
      let b : half_at c ≤ 1 = omega arith in
      let l : s * half_at c ≤ s * 1 = mul-le-mul_left s b in
      omega arith

-- and back: sequence q of DIF channel h has that rank in that audio channel
module _ (s h q : ℕ) (half : Half s) (hq : q < 2 * s) where
  which_half : q / s < 2
  which_half = (div-lt_iff_lt-mul (half_some s half)).1 hq

  pub dif_audio : dif_of (audio_at s h q) ≡ h
  dif_audio = omega (arith, which_half)

  pub sequence_audio : s * half_at (audio_at s h q) + rank_at s q ≡ q
  sequence_audio =
      let e : half_at (audio_at s h q) ≡ q / s = omega (arith, which_half) in
      ap (λ (x : ℕ). s * x + q % s) e ∙ div-add-mod q s

  pub audio_within : h < 4 → (0 < audio_at s h q) × (audio_at s h q < 9)
  audio_within hh = (omega arith, omega (arith, which_half))
