-- The workshop of "A new commentary channel in a finished frame": what follows from the bytes that are exchanged, by document 01's numbers alone.
-- Assumes nothing.
use Rattle.std.specs.Prelude.{Some}
use mathlib.Core.Path.{◌≡◌, refl, sym, ap₂, ◌∙◌}
use mathlib.Core.List.{List}
use mathlib.Core.Logic.{◌≢◌}
use Prim.Native.Nat.{ℕ, ◌+◌, ◌-◌, ◌*◌, ◌/◌, ◌%◌, ◌≤◌, ◌<◌}
use native.Mathlib.Omega.{arith}
use lib.Dec.{eqb}
use lib.IntN.{ℤ, pos}
use lib.ListN.{length, get_or}
use lib.Seq.{ext_get_or}
use borrow.Author.Tests.{eqb-true, eqb-false}
use Rattle.base.proofs.Below.{below_means, by_below}
use Rattle.base.proofs.Cases.{by_lt, by_eq}
use Rattle.base.proofs.Parts.{digit_one}
use Rattle.paper.specs.declared.System.{System}
use Rattle.paper.specs.Paper.{sequences, positions, section_at, figure3, sound_index, sound_start, sound_word, word_by}
use Rattle.promises.specs.Refusals.{count_stored}
use Rattle.promises.specs.Unrecorded.{SameButAudio}
use Rattle.promises.specs.Commentary.{Elsewhere, Exchanged, SalvagedAgain}
use Rattle.rules_format.specs.Systems.{half_of, system_of}
use Rattle.rules_format.proofs.Systems.{half_cases}
use Rattle.rules_format.proofs.Sound.{audio_below}
use Rattle.rules_format.proofs.Paper.{columns}
use Rattle.rules_format.proofs.Starts.{start_one}
use Rattle.promises.proofs.Apart.{offset_below, SameAs}
use Rattle.promises.proofs.One.{channels_one}

-- ---- one answer

-- a byte that is the same in two frames is the same in what becomes of them
pub exchanged_byte : {k : ℕ} {f f' : List ℕ} {c : ℕ} {samples : List ℤ} {g g' : List ℕ} → Exchanged k f c samples g → Exchanged k f' c samples g'
    → (i : ℕ) → get_or f' i 0 ≡ get_or f i 0 → get_or g' i 0 ≡ get_or g i 0
exchanged_byte {k} {f} {f'} {c} {samples} m m' i same =
    let at : ℕ → ℕ = sound_start (sequences k) c in
    by_below (λ (t : ℕ). eqb i (sound_start (sequences k) c t)) (length samples)
    (λ t h e. rw (eqb-true i (sound_start (sequences k) c t) e) (m'.high t h ∙ sym (m.high t h)))
    (λ high.
    by_below (λ (t : ℕ). eqb i (sound_start (sequences k) c t + 1)) (length samples)
    (λ t h e. rw (eqb-true i (sound_start (sequences k) c t + 1) e) (m'.low t h ∙ sym (m.low t h)))
    (λ low.
    let apart : Elsewhere (sequences k) c (length samples) i = λ t h. (eqb-false i (at t) (high t h), eqb-false i (at t + 1) (low t h)) in
    m'.other i (rw m'.count at apart) ∙ same ∙ sym (m.other i (rw m.count at apart))))

pub exchanged_one : {k : ℕ} {f : List ℕ} {c : ℕ} {samples : List ℤ} {g g' : List ℕ} → Exchanged k f c samples g → Exchanged k f c samples g' → g ≡ g'
exchanged_one {g = g} {g' = g'} m m' = ext_get_or 0 g g' (m.size ∙ sym m'.size) (λ i b. exchanged_byte m' m i refl)

-- a position below the count of its channel, or any other
pub salvaged_again_one : {k c : ℕ} {samples before after after' : List ℤ} → SalvagedAgain k c samples before after → SalvagedAgain k c samples before after' → after ≡ after'
salvaged_again_one {k} {c} {samples} {before} {after} {after'} m m' =
    channels_one (positions k) m.size m'.size (λ d t d1 d8 h.
    let else : (d ≡ c → length samples ≤ t) → get_or after ((d - 1) * positions k + t) (pos 0) ≡ get_or after' ((d - 1) * positions k + t) (pos 0) =
    λ other. m.others d t d1 d8 h other ∙ sym (m'.others d t d1 d8 h other) in
    by_eq d c
    (λ own. by_lt t (length samples) (λ below. rw own (m.sample t below ∙ sym (m'.sample t below))) (λ past. else (λ e. past)))
    (λ ne. else (λ e. absurd (ne e))))

-- ---- Exchanged: what is as it was

-- places 6 + 16a are of the audio section
audio_section : (a : ℕ) → a < 9 → section_at (6 + 16 * a) ≡ 3
unfolding figure3
audio_section a h = eqb-true _ _ (below_means (λ (i : ℕ). eqb (section_at (6 + 16 * i)) 3) 9 refl a h)

module _ {k : ℕ} {f : List ℕ} {c : ℕ} {samples : List ℤ} {g : List ℕ} (x : Exchanged k f c samples g) (y : System) (known : system_of k ≡ Some y) (c1 : 0 < c) (c8 : c < 9)
    (few : count_stored k f c ≤ positions k) where
  abbrev n : ℕ
  n = sequences k

  -- a word lies in an audio block
  nine_blocks : (t : ℕ) → 3 * (t % 3) + t % (9 * (n / 2)) / (3 * (n / 2)) < 9
  unfolding half_of
  nine_blocks t = rw (columns k y known).sequences_is (audio_below (half_of y) (half_cases y) t)

  index_section : (t : ℕ) → section_at (sound_index n c t % 150) ≡ 3
  index_section t =
      let a = 3 * (t % 3) + t % (9 * (n / 2)) / (3 * (n / 2)) in
      let nine = nine_blocks t in
      let p : sound_index n c t % 150 ≡ 6 + 16 * a = omega (arith, nine) in
      rw p (audio_section a nine)

  -- a byte that is no word's: of another block, or before its words
  apart_byte : (j b : ℕ) → b < 80 → ((t : ℕ) → j ≡ sound_index n c t → 8 ≤ b → ⊥) → Elsewhere n c (count_stored k f c) (j * 80 + b)
  apart_byte j b hb other t h =
      let i = sound_index n c t in
      let w = 8 + 2 * (t / (9 * (n / 2))) in
      let room = offset_below k f c t (omega (arith, h, few)) in
      let next : i * 80 + w + 1 ≡ i * 80 + (w + 1) = omega arith in (
        (λ e. let one = digit_one 80 j i b w hb (omega (arith, room)) e in other t one.0 (omega (arith, one.1))),
        λ e. let one = digit_one 80 j i b (w + 1) hb room (e ∙ next) in other t one.0 (omega (arith, one.1)),
      )

  -- ID and pack of a block, and every byte of a block of another section
  pub head_same : (j b : ℕ) → b < 8 → get_or g (j * 80 + b) 0 ≡ get_or f (j * 80 + b) 0
  head_same j b hb = x.other (j * 80 + b) (apart_byte j b (omega arith) (λ t e low. omega (arith, hb, low)))

  block_same : (j b : ℕ) → b < 80 → section_at (j % 150) ≢ 3 → get_or g (j * 80 + b) 0 ≡ get_or f (j * 80 + b) 0
  block_same j b hb d = x.other (j * 80 + b) (apart_byte j b hb (λ t e low. d (rw e (index_section t))))

  pub exchanged_apart : SameButAudio k f g
  exchanged_apart = record { size = x.size; ids = λ j b hj hb. head_same j b (omega arith); others = λ j b hj hb d. block_same j b hb d }

  pub exchanged_as : (d : ℕ) → SameAs k f g d
  exchanged_as d = record { byte = λ r i hr hi. head_same _ (3 + i) (omega arith) }

  -- ---- the words

  pub word_new : (t : ℕ) → t < count_stored k f c → sound_word n g c t ≡ word_by (get_or samples t (pos 0))
  word_new t h = let h' : t < length samples = omega (arith, h, x.count) in ap₂ (λ (a b : ℕ). a * 256 + b) (x.high t h') (x.low t h') ∙ omega arith

  -- of another position
  module _ (d t : ℕ) (d1 : 0 < d) (d8 : d < 9) (ht : t < positions k) (other : d ≡ c → count_stored k f c ≤ t) where
    apart : (u : ℕ) → u < count_stored k f c → sound_start n d t ≢ sound_start n c u
    apart u hu e =
        let col = columns k y known in
        let one = start_one y d c t u d1 d8 c1 c8 (omega (arith, ht, col.positions_is)) (omega (arith, hu, few, col.positions_is)) (rw col.sequences_is at e) in
        omega (arith, one.1, other one.0, hu)

    pub high_else : get_or g (sound_start n d t) 0 ≡ get_or f (sound_start n d t) 0
    high_else = x.other (sound_start n d t) (λ u hu. (apart u hu, λ e. omega (arith, e)))

    pub low_else : get_or g (sound_start n d t + 1) 0 ≡ get_or f (sound_start n d t + 1) 0
    low_else = x.other (sound_start n d t + 1) (λ u hu. ((λ e. omega (arith, e)), λ e. apart u hu (omega (arith, e))))

    pub word_else : sound_word n g d t ≡ sound_word n f d t
    word_else = ap₂ (λ (a b : ℕ). a * 256 + b) high_else low_else
