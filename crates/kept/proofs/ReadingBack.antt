-- The workshop of the second demand: what the strict reads answer of a written frame. Assumes nothing.
use Rattle.std.specs.Prelude.{Some}
use mathlib.Core.Path.{◌≡◌, refl, sym, ap, ◌∙◌}
use mathlib.Core.List.{List, ◌++◌}
use Prim.Native.Nat.{ℕ, ◌+◌, ◌*◌, ◌≤◌, ◌<◌}
use native.Mathlib.Omega.{arith}
use borrow.Author.Tests.{eq-eqb, lt-ltb}
use lib.IntN.{ℤ}
use lib.ListN.{length, take, drop, length-append, length-drop}
use lib.Seq.{drop_at}
use Rattle.base.specs.Run.{tab}
use Rattle.base.proofs.Picks.{both_hold}
use Rattle.base.proofs.Runs.{length_tab}
use Rattle.paper.specs.declared.System.{System}
use Rattle.paper.specs.declared.AudioAnswer.{AudioAnswer}
use Rattle.rules_format.specs.Systems.{positions_of, macroblocks_of, system_of}
use Rattle.rules_format.specs.Samples.{number_of}
use Rattle.rules_reads.specs.Audio.{count_for, heard_sample, audio_number}
use Rattle.rules_reads.specs.Macroblock.{macroblock_number, macroblock_part}
use Rattle.rules_reads.specs.Time.{time_number}
use Rattle.promises.specs.Contents.{Contents}
use Rattle.rules_writes.specs.Write.{written_frame, Takes}
use Rattle.paper.specs.Paper.{back}
use Rattle.promises.specs.Demand2.{Strict, given, ReadsBack}
use Rattle.rules_reads.specs.Strict.{StrictlyRead}
use Rattle.rules_format.proofs.Systems.{count_below}
use Rattle.rules_format.proofs.Samples.{back_is}
use Rattle.rules_picture.proofs.Picture.{carrier_one}
use Rattle.rules_reads.proofs.Audio.{heard_recorded, audio_rows_lem, audio_taken, audio_sample}
use Rattle.rules_reads.proofs.Macroblock.{macroblock_rows, macroblock_carried}
use Rattle.rules_reads.proofs.Time.{time_rows_lem, time_taken}
use Rattle.rules_writes.proofs.Written.{frame_length, given_in, stored_given}
use Rattle.kept.proofs.Back.{rows_written, check_written, count_written, recorded_written, audio_written, sample_written, picture_written, slot_written}
use Rattle.kept.proofs.Back.{group_written, clock_written, settled_written}
use Rattle.rules_packs.proofs.Written.{four_again}

-- ---- the frame of what is taken

module _ (y : System) (l : Contents) (size : ℕ) (t : Takes y l size) where
  -- the 77 bytes of a macroblock were lent
  macroblock_lent : (b : ℕ) → b < macroblocks_of y → 77 * b + 77 ≤ length l.macroblocks
  macroblock_lent b h = omega (arith, t.pictures)

  module _ (k : ℕ) (known : system_of k ≡ Some y) where
    -- ---- read_audio

    module _ (c : ℕ) (c1 : 0 < c) (c8 : c < 9) (samples : List ℤ) (room : length samples ≡ positions_of y) where
      audio_zero_written : audio_number k (written_frame y l) c (length samples) ≡ 0
      audio_zero_written =
          sym (audio_rows_lem k (written_frame y l) c (length samples) y known (eq-eqb _ _ (frame_length y l)) (both_hold (lt-ltb 0 c c1) (lt-ltb c 9 c8)) (eq-eqb _ _ room) (rows_written y l))
          ∙ audio_written y l c c1 c8 t.counts

      count_is : count_for y (written_frame y l) c ≡ l.count
      count_is = count_written y l c c1 c8 t.counts

      sample_is : (i : ℕ) → i < l.count → number_of (heard_sample y (written_frame y l) c i) ≡ back (given l c i)
      sample_is i h =
          ap number_of (heard_recorded y (written_frame y l) c i (recorded_written y l c c1 c8))
          ∙ ap number_of (sample_written y l c c1 c8 i (omega (arith, h, count_below y l.count t.counts)))
          ∙ stored_given l c i c1 c8 t.sounds t.levels h
          ∙ back_is (given l c i) (given_in l c i c1 c8 t.sounds t.levels h)

    -- ---- macroblock

    module _ (b : ℕ) (within : b < macroblocks_of y) where
      macroblock_zero_written : macroblock_number k (written_frame y l) b ≡ 0
      macroblock_zero_written =
          sym (macroblock_rows k (written_frame y l) b y known (eq-eqb _ _ (frame_length y l)) (lt-ltb _ _ within) (rows_written y l)) ∙ picture_written y l

      part_is : macroblock_part k (written_frame y l) b ≡ take 77 (drop (77 * b) l.macroblocks)
      part_is =
          let one = carrier_one y b within in
          macroblock_carried k (written_frame y l) b y known macroblock_zero_written one.outcome one.meets
          ∙ slot_written y l one.outcome b one.meets (macroblock_lent b within)

    -- ---- read_time

    time_zero_written : time_number k (written_frame y l) ≡ 0
    time_zero_written = sym (time_rows_lem k (written_frame y l) y known (eq-eqb _ _ (frame_length y l)) (rows_written y l)) ∙ clock_written y l t.clock

    -- ---- all

    pub reads_back : (c : ℕ) (samples : List ℤ) (b : ℕ) (o : Strict) → 0 < c → c < 9 → length samples ≡ positions_of y → b < macroblocks_of y
        → StrictlyRead k (written_frame y l) c samples b o → ReadsBack l c samples b o
    reads_back c samples b o c1 c8 room within read =
        let zero = audio_zero_written c c1 c8 samples room in
        let count = count_is c c1 c8 samples room in
        let audio = audio_taken k (written_frame y l) c samples y known zero read.audio in
        let sample : ℕ → ℤ = λ i. number_of (heard_sample y (written_frame y l) c i) in
        let heard : List ℤ = tab sample l.count in
        let many = length_tab sample l.count in
        let left : o.samples ≡ heard ++ drop l.count samples = audio.1 ∙ rw count refl in
        record {
          check = read.check.answer ∙ check_written y l k known;
          audio = audio.0 ∙ rw count refl;
          sample = λ i h.
              audio_sample k (written_frame y l) c samples y known zero read.audio i (omega (arith, h, count, ap (λ (a : AudioAnswer). a.count) audio.0))
              ∙ sample_is c c1 c8 samples room i h;
          rest = ap (drop l.count) left ∙ drop_at heard (drop l.count samples) l.count many;
          size = ap length left ∙ length-append heard (drop l.count samples) ∙ omega (arith, many, length-drop l.count samples, room, count_below y l.count t.counts);
          number = read.number.answer ∙ macroblock_zero_written b within;
          part = read.part.answer ∙ part_is b within;
          time = time_taken k (written_frame y l) y known time_zero_written read.time
              ∙ rw (settled_written y l t.clock, group_written y l, four_again l.time_code t.times, four_again l.binary_group t.groups) refl;
        }
