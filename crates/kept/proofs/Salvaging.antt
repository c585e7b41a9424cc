-- The workshop of the third demand: what salvage gives of any frame of a written frame's length. Assumes nothing.
use Rattle.std.specs.Prelude.{Some}
use mathlib.Core.Path.{◌≡◌, refl, sym, ap, ◌∙◌, subst}
use mathlib.Core.Bool.{true}
use mathlib.Core.List.{List}
use Prim.Native.Nat.{ℕ, ◌+◌, ◌-◌, ◌*◌, ◌<◌}
use native.Mathlib.Omega.{arith}
use borrow.Author.Tests.{eq-eqb, lt-ltb, le-ltb}
use lib.IntN.{ℤ, pos}
use lib.ListN.{length, get_or}
use Rattle.base.proofs.Cases.{by_lt}
use Rattle.base.proofs.Picks.{pick_true, pick_false}
use Rattle.paper.specs.declared.System.{System}
use Rattle.paper.specs.declared.Survey.{Survey}
use Rattle.promises.specs.Demand3.{PositionOut, stored, block_of, SampleSalvaged, Salvages}
use Rattle.rules_surveys.proofs.Salvaging.{position_out}
use Rattle.rules_format.specs.Systems.{sequences_of, half_of, positions_of, system_of}
use Rattle.rules_format.specs.Samples.{number_of, sample_of, word_at}
use Rattle.rules_format.specs.Sound.{dif_of, sequence_of, sound_place, byte_of}
use Rattle.rules_format.specs.Faults.{names}
use Rattle.rules_format.specs.Reading.{sound_block, sound_named, read_sample}
use Rattle.rules_surveys.specs.Salvage.{salvage_number, salvaged, Salvaged}
use Rattle.promises.specs.Contents.{Contents}
use Rattle.rules_writes.specs.Write.{written_frame, Wrote, Takes}
use Rattle.paper.specs.Paper.{positions}
use Rattle.promises.specs.Demand2.{given}
use Rattle.rules_format.proofs.Samples.{back_is, silence}
use Rattle.rules_writes.proofs.Written.{frame_length, stored_word, sound_names, given_in, stored_given, stored_tail}
use Rattle.kept.proofs.Back.{sample_written}
use Rattle.rules_surveys.proofs.Salvage.{salvaged_length, position_named, salvage_0, salvage_taken}
use Rattle.rules_writes.proofs.Write.{write_1, write_takes, write_taken}
use Rattle.rules_surveys.proofs.Answering.{survey_number_lem}
use Rattle.rules_format.proofs.Paper.{columns, by_system}
use Rattle.rules_format.proofs.Numbers.{sound_block_lem}
use Rattle.rules_surveys.proofs.Listing.{salvage_listed}
use Rattle.promises.proofs.One.{salvages_one}

-- ---- stored: what the word of a position says

stored_says : (y : System) (l : Contents) (size : ℕ) → Takes y l size → (c t : ℕ) → 0 < c → c < 9 → number_of (sample_of (stored_word l c t)) ≡ stored l c t
stored_says y l size takes c t c1 c8 =
    by_lt t l.count
    (λ below.
    stored_given l c t c1 c8 takes.sounds takes.levels below
    ∙ back_is (given l c t) (given_in l c t c1 c8 takes.sounds takes.levels below)
    ∙ sym (pick_true _ _ (lt-ltb _ _ below)))
    (λ above. ap (λ (w : ℕ). number_of (sample_of w)) (stored_tail l c t above) ∙ silence ∙ sym (pick_false _ _ (le-ltb _ _ above)))

-- ---- salvage

module _ {k : ℕ} {l : Contents} {frame f g : List ℕ} {samples samples' : List ℤ} {list list' : List ℕ} {r : Survey} (y : System)
    (known : system_of k ≡ Some y) (wrote : Wrote k l frame 0 f) (same : length g ≡ length f) (space : length samples ≡ 8 * positions_of y)
    (rescued : Salvaged k g samples list r samples' list') where
  takes : Takes y l (length frame)
  takes = write_takes k y known l frame wrote

  is : f ≡ written_frame y l
  is = (write_taken k y known l frame takes wrote).1

  whole : length g ≡ 48000 * sequences_of y
  whole = same ∙ ap length is ∙ frame_length y l

  zero : salvage_number k g (length samples) ≡ 0
  zero = sym (salvage_0 k g (length samples) y known (eq-eqb _ _ whole) (eq-eqb _ _ space))

  left : samples' ≡ salvaged y g
  left = salvage_taken rescued y known zero

  number_is : r.number ≡ 0
  number_is = survey_number_lem rescued.survey ∙ zero

  -- a block as it was written names its place, and its word is the stored one
  module _ (c t : ℕ) (c1 : 0 < c) (c8 : c < 9) (ht : t < positions_of y) where
    untouched_block : block_of (sequences_of y) g c t ≡ block_of (sequences_of y) f c t → sound_block y g c t ≡ sound_block y (written_frame y l) c t
    untouched_block e = sound_block_lem y g c t ∙ e ∙ sym (sound_block_lem y f c t) ∙ ap (λ (x : List ℕ). sound_block y x c t) is

    untouched_named : block_of (sequences_of y) g c t ≡ block_of (sequences_of y) f c t → sound_named y g c t ≡ true
    untouched_named e =
        ap (λ (b : List ℕ). names b (dif_of c) (sequence_of (half_of y) c t) (sound_place (half_of y) t)) (untouched_block e)
        ∙ eq-eqb _ _ (sound_names y l c t c1 c8 ht)

    untouched_read : block_of (sequences_of y) g c t ≡ block_of (sequences_of y) f c t → number_of (read_sample y g c t) ≡ stored l c t
    unfolding read_sample
    untouched_read e =
        ap (λ (b : List ℕ). number_of (sample_of (word_at b (byte_of (half_of y) t)))) (untouched_block e)
        ∙ ap number_of (sample_written y l c c1 c8 t ht)
        ∙ stored_says y l (length frame) takes c t c1 c8

    sample : SampleSalvaged (sequences_of y) l f g c t (get_or samples' ((c - 1) * positions_of y + t) (pos 0))
    sample =
        let here = ap (λ (xs : List ℤ). get_or xs ((c - 1) * positions_of y + t) (pos 0)) left in
        record {
          untouched = λ e. here ∙ position_named y g c t c1 c8 ht (untouched_named e) ∙ untouched_read e;
          now_there = subst (PositionOut (sequences_of y) g c t) (sym here) (position_out y g whole c t c1 c8 ht);
        }

  rescues : Salvages k l f g list r samples' list'
  rescues = let col = columns k y known in record {
    number = number_is;
    size = ap length left ∙ salvaged_length y g ∙ rw col.positions_is refl;
    sample = λ c t c1 c8 ht. rw (col.sequences_is, col.positions_is) (sample c t c1 c8 (omega (arith, ht, col.positions_is)));
    faults = salvage_listed k rescued number_is;
  }

pub salvages : {k : ℕ} {l : Contents} {frame f g : List ℕ} {samples samples' : List ℤ} {list list' : List ℕ} {r : Survey} → Wrote k l frame 0 f
    → length g ≡ length f → length samples ≡ 8 * positions k → Salvaged k g samples list r samples' list' → Salvages k l f g list r samples' list'
salvages {k} {l} {frame} wrote same space rescued =
    by_system k
    (λ none. absurd (omega (arith, wrote.answer, write_1 k l (length frame) none)))
    (λ y known. rescues y known wrote same (space ∙ rw (columns k y known).positions_is refl) rescued)

pub salvage_decided : {k : ℕ} {l : Contents} {frame f g list list' list'' : List ℕ} {samples samples' samples'' : List ℤ} {r r'' : Survey} → Wrote k l frame 0 f
    → length g ≡ length f → length samples ≡ 8 * positions k → Salvaged k g samples list r samples' list' → Salvages k l f g list r'' samples'' list''
    → (r'' ≡ r) × (samples'' ≡ samples') × (list'' ≡ list')
salvage_decided wrote same space rescued m = salvages_one m (salvages wrote same space rescued)
