-- What the demands stop, each by a proof that it breaks one at a frame that the writer makes; and that the writer makes frames. Assumes nothing.
use mathlib.Core.Path.{◌≡◌, refl, sym, ap, ◌∙◌, subst}
use mathlib.Core.Bool.{true}
use mathlib.Core.List.{List, [], ◌∷◌}
use Prim.Native.Nat.{ℕ, ◌+◌, ◌-◌, ◌*◌, ◌<◌}
use native.Mathlib.Omega.{arith}
use borrow.Author.Tests.{lt-ltb}
use lib.IntN.{ℤ, pos}
use lib.ListN.{length, replicate, length-replicate, get_or-replicate}
use Rattle.base.proofs.Picks.{pick_true}
use Rattle.base.proofs.Runs.{end_within}
use Rattle.paper.specs.declared.System.{System}
use Rattle.paper.specs.declared.System.TheVariants.{I60, I50, P60, P50}
use Rattle.rules_format.specs.Systems.{half_of}
use Rattle.rules_packs.specs.TimeCode.{time_pack, time_taken}
use Rattle.rules_format.specs.Samples.{in_range}
use Rattle.rules_writes.specs.Write.{Wrote, Takes}
use Rattle.paper.specs.Paper.{sequences, positions, macroblocks, back}
use Rattle.paper.specs.Bytes.{OwnCount}
use Rattle.promises.specs.Demand2.{Strict, given, ReadsBack, tone}
use Rattle.promises.specs.Demand3.{SampleSalvaged}
use Rattle.rules_format.proofs.Systems.{half_cases, count_turns, macroblocks_some}
use Rattle.rules_format.proofs.Samples.{all_pass}
use Rattle.rules_format.proofs.Sound.{half_some}
use Rattle.rules_reads.proofs.Audio.{read_audio_one}
use Rattle.rules_writes.proofs.Write.{write_taken}
use Rattle.rules_format.proofs.Paper.{columns, known_system}
use Rattle.rules_packs.proofs.Judged.{own_when}
use Rattle.kept.proofs.Together.{audio_beside}
use Rattle.kept.proofs.WritingBack.{writes_back}

-- ---- tone: the writer takes it

tone_clock : (y : System) → time_taken y (time_pack (0x40 ∷ 0 ∷ 0 ∷ 0 ∷ [])) ≡ true
unfolding time_taken
tone_clock I60 = refl
tone_clock I50 = refl
tone_clock P60 = refl
tone_clock P50 = refl

module _ (k : ℕ) (below : k < 4) (count : ℕ) (own : OwnCount k count) where
  pub tone_taken : {frame f : List ℕ} {r : ℕ} → length frame ≡ 48000 * sequences k → Wrote k (tone k count 5) frame r f → r ≡ 0
  unfolding in_range
  tone_taken {frame} whole wrote =
      known_system k below (λ y known.
      let col = columns k y known in
      let takes : Takes y (tone k count 5) (length frame) = record {
        frame = whole ∙ rw col.sequences_is refl;
        counts = own_when k y known count own;
        sounds = length-replicate (8 * count) (pos 5);
        pictures = length-replicate (77 * macroblocks k) 0 ∙ rw col.macroblocks_is refl;
        times = refl;
        groups = refl;
        levels = all_pass (replicate (8 * count) (pos 5)) (λ i h.
            ap in_range (get_or-replicate (8 * count) i (pos 5) (pos 0) (subst (λ (n : ℕ). i < n) (length-replicate (8 * count) (pos 5)) h)));
        clock = tone_clock y;
      } in
      (write_taken k y known (tone k count 5) frame takes wrote).0)

  count_some : 0 < count
  count_some = known_system k below (λ y known. omega (arith, count_turns y count (own_when k y known count own), half_some (half_of y) (half_cases y)))

-- ---- tone: its level is what is given, and comes back

module _ (k count c t : ℕ) (c1 : 0 < c) (c8 : c < 9) (below : t < count) where
  tone_given : (level : ℕ) → back (given (tone k count level) c t) ≡ pos level
  unfolding back
  tone_given level =
      let lower : c - 1 < 8 = omega arith in
      ap back (get_or-replicate (8 * count) ((c - 1) * count + t) (pos level) (pos 0) (omega (arith, below, end_within count (c - 1) 8 lower)))

  -- the third demand stops a salvage that calls all lost
  pub all_lost : {n : ℕ} {f : List ℕ} → SampleSalvaged n (tone k count 5) f f c t (pos 32768) → ⊥
  all_lost s =
      let e : pos 32768 ≡ pos 5 = s.untouched refl ∙ pick_true _ _ (lt-ltb t count below) ∙ tone_given 5 in
      let q : ◌≡◌ {A = ℕ} 32768 5 = cc in
      omega arith

-- ---- one for two

module _ (k : ℕ) (below : k < 4) (count : ℕ) (own : OwnCount k count) where
  -- the second demand stops one answer for two inputs
  pub one_for_two : (c : ℕ) {samples : List ℤ} {b : ℕ} {o : Strict} → 0 < c → c < 9 → ReadsBack (tone k count 5) c samples b o
      → ReadsBack (tone k count 6) c samples b o → ⊥
  one_for_two c c1 c8 a a' =
      let some = count_some k below count own in
      let e : pos 5 ≡ pos 6 = sym (a.sample 0 some ∙ tone_given k count c 0 c1 c8 some 5) ∙ (a'.sample 0 some ∙ tone_given k count c 0 c1 c8 some 6) in
      let q : ◌≡◌ {A = ℕ} 5 6 = cc in
      omega arith

  -- and so one frame for two inputs
  pub frame_for_two : {frame frame' f : List ℕ} → Wrote k (tone k count 5) frame 0 f → Wrote k (tone k count 6) frame' 0 f → ⊥
  frame_for_two {frame} {frame'} {f} w w' =
      known_system k below (λ y known.
      let samples : List ℤ = replicate (positions k) (pos 0) in
      let room : length samples ≡ positions k = length-replicate (positions k) (pos 0) in
      let first : 0 < macroblocks k = omega (arith, macroblocks_some y, (columns k y known).macroblocks_is) in
      let read = audio_beside (read_audio_one k f 1 samples).meets in
      one_for_two 1 (omega arith) (omega arith)
      ((writes_back w).reads_back 1 samples 0 _ (omega arith) (omega arith) room first read)
      ((writes_back w').reads_back 1 samples 0 _ (omega arith) (omega arith) room first read))
