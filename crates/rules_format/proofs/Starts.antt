-- Where the words of a frame start: each position of each audio channel has two bytes of its own, in an audio block behind its ID and its pack. Assumes nothing.
use mathlib.Core.Path.{◌≡◌, refl, sym, ap, ap₂, ◌∙◌, subst}
use mathlib.Core.List.{[]}
use Prim.Native.Nat.{ℕ, ◌+◌, ◌<◌}
use native.Mathlib.Omega.{arith}
use Rattle.paper.specs.declared.System.{System}
use Rattle.paper.specs.declared.Section.TheVariants.{Audio}
use Rattle.rules_format.specs.Systems.{sequences_of, half_of, positions_of}
use Rattle.rules_format.specs.Blocks.{start_of, Holds}
use Rattle.rules_format.specs.Sound.{dif_of, rank_of, audio_of, word_number, byte_of, sequence_of, sound_place, audio_at, rank_at, sample_at}
use Rattle.paper.specs.Paper.{sound_start}
use Rattle.rules_format.proofs.Systems.{half_cases, positions_half}
use Rattle.rules_format.proofs.Places.{place_in_below}
use Rattle.rules_format.proofs.Blocks.{holds_one}
use Rattle.rules_format.proofs.Sound.{sample_back, rank_below, audio_below, word_below, rank_sequence_lem, audio_sequence}
use Rattle.rules_format.proofs.Reading.{sound_sequence}

-- ---- sound_start

-- by the definitions of the sound rule
pub start_is : (y : System) (c t : ℕ) → sound_start (sequences_of y) c t ≡ start_of y (dif_of c) (sequence_of (half_of y) c t) (sound_place (half_of y) t) + byte_of (half_of y) t
unfolding half_of
start_is y c t = refl

-- byte j of the word of position t
pub word_holds : (y : System) (c t j : ℕ) → c < 9 → t < positions_of y → j < 2
    → Holds y (sound_start (sequences_of y) c t + j) (dif_of c) (sequence_of (half_of y) c t) (sound_place (half_of y) t) (byte_of (half_of y) t + j)
word_holds y c t j c8 ht hj = record {
  channel = omega arith;
  sequence = sound_sequence y [] c t;
  place = place_in_below Audio (audio_of (half_of y) t) (audio_below (half_of y) (half_cases y) t);
  offset = omega (arith, word_below (half_of y) (half_cases y) t (omega (arith, positions_half y, ht)));
  is = omega (arith, start_is y c t);
}

-- no two positions start at one byte
pub start_one : (y : System) (c d t u : ℕ) → 0 < c → c < 9 → 0 < d → d < 9 → t < positions_of y → u < positions_of y
    → sound_start (sequences_of y) c t ≡ sound_start (sequences_of y) d u → (c ≡ d) × (t ≡ u)
start_one y c d t u c1 c8 d1 d8 ht hu e =
    let s : ℕ = half_of y in
    let half = half_cases y in
    let here = word_holds y c t 0 c8 ht (omega arith) in
    let there = subst (λ (k : ℕ). Holds y (k + 0) (dif_of d) (sequence_of (half_of y) d u) (sound_place (half_of y) u) (byte_of (half_of y) u + 0)) (sym e) (word_holds y d u 0 d8 hu (omega arith)) in
    let one = holds_one here there in
    let rank : rank_of (half_of y) t ≡ rank_of (half_of y) u =
    sym (rank_sequence_lem (half_of y) c (rank_of (half_of y) t) half (rank_below (half_of y) half t))
    ∙ ap (rank_at (half_of y)) one.1 ∙ rank_sequence_lem (half_of y) d (rank_of (half_of y) u) half (rank_below (half_of y) half u) in
    let audio : audio_of (half_of y) t ≡ audio_of (half_of y) u = omega (arith, one.2) in
    let word : word_number (half_of y) t ≡ word_number (half_of y) u = omega (arith, one.3) in (
      sym (audio_sequence (half_of y) c (rank_of (half_of y) t) half (rank_below (half_of y) half t) c1)
          ∙ ap₂ (audio_at (half_of y)) one.0 one.1 ∙ audio_sequence (half_of y) d (rank_of (half_of y) u) half (rank_below (half_of y) half u) d1,
      sym (sample_back (half_of y) half t)
          ∙ (λ i. sample_at (half_of y) (rank i) (audio i) (word i)) ∙ sample_back (half_of y) half u,
    )
