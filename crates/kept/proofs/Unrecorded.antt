-- The workshop of "Unrecorded channels come back as faults". Assumes nothing.
use mathlib.Core.Path.{◌≡◌, sym, ap, ◌∙◌}
use mathlib.Core.Bool.{Bool, true, false}
use mathlib.Core.List.{List}
use mathlib.Core.Logic.{◌≢◌}
use Prim.Native.Nat.{ℕ, ◌+◌, ◌/◌, ◌<◌}
use native.Mathlib.Omega.{arith}
use lib.IntN.{ℤ, pos}
use lib.ListN.{length, get_or}
use Rattle.paper.specs.declared.AudioAnswer.{AudioAnswer}
use Rattle.paper.specs.Paper.{sequences, positions, macroblocks, sound_channel, sound_first, mode_said}
use Rattle.paper.specs.Bytes.{OwnCount}
use Rattle.promises.specs.Demand2.{tone}
use Rattle.promises.specs.Unrecorded.{Marks, every, ComesBackLost}
use Rattle.promises.proofs.Apart.{apart_alike, some_sequence, aaux_words}
use Rattle.promises.proofs.Unrecorded.{marks_aaux, marks_as, every_leads, some_leads, marked_count, marked_mode}
use Rattle.rules_format.proofs.Systems.{macroblocks_some}
use Rattle.rules_format.proofs.Paper.{columns, known_system}
use Rattle.rules_reads.specs.Audio.{AudioRead}
use Rattle.rules_writes.specs.Write.{Wrote}
use Rattle.kept.proofs.WritingBack.{writes_back}
use Rattle.kept.proofs.Together.{audio_beside, audio_out}
use Rattle.rules_reads.proofs.Headlines as reads
use Rattle.rules_reads.proofs.Audio.{read_audio_one}
use Rattle.kept.proofs.Alike.{given, read_system, same_audio}

-- ---- read_audio

-- a channel that is read, with all its AS packs marked
pub comes_back_lost : {k : ℕ} {f : List ℕ} {c : ℕ} {g : List ℕ} {samples heard heard' : List ℤ} {r r' : AudioAnswer} → Marks k f c every g
    → AudioRead k f c samples r heard → r.number ≡ 0 → AudioRead k g c samples r' heard' → ComesBackLost r samples r' heard'
comes_back_lost {k} {f} {c} {g} {samples} {heard} {heard'} {r} {r'} m read z read' =
    let zero : r'.number ≡ 0 = sym ((reads.audio_answers k g c samples).no_other (r', heard') read' 0 ((every_leads m).to (given read z))) in
    let some = (some_sequence k (read_system read z)).1 in
    let out = audio_out read' in
    let count : r'.count ≡ r.count = out.count zero ∙ marked_count m some ∙ sym ((audio_out read).count z) in
    record {
      answer = λ i. record { number = zero i; count = count i };
      sample = λ t h. out.unrecorded zero (marked_mode m some) t (omega (arith, h, count));
      rest = rw count at (out.rest zero);
      size = out.size;
    }

-- a channel that is read, with one AS marked and another not
pub some_marked : {k : ℕ} {f : List ℕ} {c : ℕ} {which : ℕ → Bool} {g : List ℕ} → Marks k f c which g → (i j : ℕ) → i < sequences k / 2 → j < sequences k / 2
    → which i ≡ true → which j ≡ false → mode_said (sequences k) f (sound_channel c) (sound_first (sequences k) c + j) ≢ 0xF
    → {samples heard heard' : List ℤ} {r r' : AudioAnswer} → AudioRead k f c samples r heard → r.number ≡ 0 → AudioRead k g c samples r' heard' → r'.number ≡ 25
some_marked {k} {f} {c} {which} {g} m i j hi hj wi wj d {samples} {heard} {heard'} {r} {r'} read z read' =
    sym ((reads.audio_answers k g c samples).no_other (r', heard') read' 25 ((some_leads m i j hi hj wi wj d).to (given read z)))

pub others_same : {k : ℕ} {f : List ℕ} {c : ℕ} {which : ℕ → Bool} {g : List ℕ} → Marks k f c which g → (c' : ℕ) → 0 < c → 0 < c' → c' < 9 → c' ≢ c
    → {samples heard heard' : List ℤ} {r r' : AudioAnswer} → AudioRead k f c' samples r heard → AudioRead k g c' samples r' heard' → (r ≡ r') × (heard ≡ heard')
others_same m c' c1 c1' c8' d read read' =
    same_audio (apart_alike (marks_aaux m).blocks) (λ above below. marks_as m c' c1 c1' d) (aaux_words (marks_aaux m) c') read read'

-- ---- the words of a marked channel are not handed out

pub handed_out : (k : ℕ) → k < 4 → (count : ℕ) → OwnCount k count → (c t level : ℕ) → 0 < c → c < 9 → t < count → level < 32768 → {frame f g : List ℕ}
    {samples heard : List ℤ} {o : AudioAnswer} → Wrote k (tone k count 5) frame 0 f → Marks k f c every g → length samples ≡ positions k → AudioRead k g c samples o heard
    → get_or heard t (pos 0) ≡ pos level → ⊥
handed_out k below count own c t level c1 c8 ht hl {frame} {f} {g} {samples} {heard} wrote m room read e =
    known_system k below (λ y known.
    let first : 0 < macroblocks k = omega (arith, macroblocks_some y, (columns k y known).macroblocks_is) in
    let one = read_audio_one k f c samples in
    let back = (writes_back wrote).reads_back c samples 0 _ c1 c8 room first (audio_beside one.meets) in
    let lost = comes_back_lost m one.meets (ap (λ (a : AudioAnswer). a.number) back.audio) read in
    let all : t < one.outcome.0.count = omega (arith, ht, ap (λ (a : AudioAnswer). a.count) back.audio) in
    let same : pos 32768 ≡ pos level = sym (lost.sample t all) ∙ e in
    let q : ◌≡◌ {A = ℕ} 32768 level = cc in
    omega (arith, q, hl))
