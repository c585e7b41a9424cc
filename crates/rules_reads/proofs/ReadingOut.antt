-- The workshop of the second demand, of the strict reads: what is read of any frame, in document 01's numbers and bytes. Assumes nothing.
use Rattle.std.specs.Prelude.{Some}
use mathlib.Core.Path.{◌≡◌, refl, sym, ap, ap₂, ◌∙◌}
use mathlib.Core.List.{List, ◌∷◌}
use mathlib.Core.Logic.{◌≢◌}
use Prim.Native.Nat.{ℕ, ◌+◌, ◌*◌, ◌<◌}
use native.Mathlib.Omega.{arith}
use lib.Dec.{eqb}
use lib.IntN.{ℤ, pos}
use lib.ListN.{length, get_or, drop, length-append, length-drop}
use lib.Seq.{drop_at}
use borrow.Author.Tests.{eq-eqb, ne_eqb}
use Rattle.base.specs.Pick.{pick}
use Rattle.base.specs.Run.{run, tab}
use Rattle.base.proofs.Cases.{by_eq}
use Rattle.base.proofs.Runs.{length_tab, tab_part}
use Rattle.paper.specs.declared.System.{System}
use Rattle.paper.specs.declared.Part.{Part}
use Rattle.paper.specs.declared.AudioAnswer.{AudioAnswer}
use Rattle.paper.specs.declared.TimeAnswer.{TimeAnswer}
use Rattle.rules_format.specs.Systems.{sequences_of, rate_of, system_of}
use Rattle.rules_format.specs.Blocks.{block_at, sequence_at, block_in}
use Rattle.rules_format.specs.Samples.{number_of}
use Rattle.rules_picture.specs.Picture.{slot, carried_in}
use Rattle.rules_reads.specs.Audio.{count_for, mode_for, heard_sample, audio_number, AudioRead}
use Rattle.rules_reads.specs.Macroblock.{macroblock_number, slot_bytes, macroblock_at, slot_start, carrier_start, MacroblockRead, MacroblockLies}
use Rattle.rules_reads.specs.Macroblock.{MacroblockNumbered}
use Rattle.rules_reads.specs.Time.{with_bit6, settled, time_first, group_first, time_number, TimeRead}
use Rattle.rules_packs.specs.Packs.{four_bytes}
use Rattle.paper.specs.Paper.{sequences, start, byte_at, bytes_at, sound_word, sample_by, slot_place, carried}
use Rattle.promises.specs.Demand2.{MacroblockOut, Strict, ReadOut}
use Rattle.rules_reads.specs.Strict.{StrictlyRead}
use Rattle.paper.specs.Bytes.{first_answered}
use Rattle.rules_format.proofs.Blocks.{block_in_sequence, block_length, part_taken}
use Rattle.rules_format.proofs.Systems.{sequences_some}
use Rattle.rules_reads.proofs.Audio.{heard_marked, heard_recorded, audio_1, audio_zero, audio_refused, audio_taken, audio_count, audio_sample}
use Rattle.rules_reads.proofs.Macroblock.{macroblock_1, macroblock_carried, macroblock_lies_number}
use Rattle.rules_reads.proofs.Time.{time_1, time_zero, time_taken}
use Rattle.rules_picture.proofs.Picture.{carried_lies}
use Rattle.rules_reads.proofs.Answering.{audio_number_lem, time_number_lem}
use Rattle.rules_format.proofs.Paper.{columns, by_system, byte_in, bytes_at_lem, rest_bytes}
use Rattle.rules_format.proofs.Numbers.{sound_heard}
use Rattle.rules_picture.proofs.Slots.{carried_is}
use Rattle.rules_reads.proofs.GroundsAudio.{count_first, mode_first}
use Rattle.rules_reads.specs.Check.{Checked}

-- ---- read_audio

module _ {k : ℕ} {f : List ℕ} {c : ℕ} {samples samples' : List ℤ} {r : AudioAnswer} (read : AudioRead k f c samples r samples') where
  -- where it goes through
  module _ (y : System) (known : system_of k ≡ Some y) (z : audio_number k f c (length samples) ≡ 0) where
    count_is : r.count ≡ count_for y f c
    count_is = ap (λ (a : AudioAnswer). a.count) (audio_taken k f c samples y known z read).0

    sample_out : mode_for y f c ≢ 0xF → (t : ℕ) → t < r.count → get_or samples' t (pos 0) ≡ sample_by (sound_word (sequences_of y) f c t)
    sample_out d t h =
        audio_sample k f c samples y known z read t h
        ∙ ap number_of (heard_recorded y f c t (ne_eqb _ _ d))
        ∙ sound_heard y f c t (omega (arith, h, count_is, audio_count k f c samples y known z, (audio_zero k f c (length samples) y known z).2))

    -- whatever the words are
    lost_out : mode_for y f c ≡ 0xF → (t : ℕ) → t < r.count → get_or samples' t (pos 0) ≡ pos 32768
    lost_out mark t h = audio_sample k f c samples y known z read t h ∙ ap number_of (heard_marked y f c t (eq-eqb _ _ mark))

    heard_out : List ℤ
    heard_out = tab (λ (t : ℕ). number_of (heard_sample y f c t)) (count_for y f c)

    rest_out : drop r.count samples' ≡ drop r.count samples
    unfolding heard_out
    rest_out =
        rw count_is
        (ap (drop (count_for y f c)) (audio_taken k f c samples y known z read).1
        ∙ drop_at heard_out (drop (count_for y f c) samples) (count_for y f c) (length_tab _ (count_for y f c)))

    size_out : length samples' ≡ length samples
    unfolding heard_out
    size_out =
        ap length (audio_taken k f c samples y known z read).1
        ∙ length-append heard_out (drop (count_for y f c) samples)
        ∙ omega (
          arith,
          length_tab (λ (t : ℕ). number_of (heard_sample y f c t)) (count_for y f c),
          length-drop (count_for y f c) samples,
          audio_count k f c samples y known z,
        )

  -- a number of 0 says a known system
  by_audio : {P : Type 0} → audio_number k f c (length samples) ≡ 0 → ((y : System) → system_of k ≡ Some y → P) → P
  by_audio z = by_system k (λ none. absurd (omega (arith, z, audio_1 k f c (length samples) none)))

  length_out : length samples' ≡ length samples
  length_out =
      by_eq (audio_number k f c (length samples)) 0
      (λ z. by_audio z (λ y known. size_out y known z))
      (λ d. ap length (audio_refused k f c samples read d).1)

-- ---- macroblock, macroblock_at

module _ (k : ℕ) (f : List ℕ) (b : ℕ) (z : macroblock_number k f b ≡ 0) (h q g m : ℕ) (hh : h < 4) (hq : q < sequences k) (hg : g < 27) (hm : m < 5)
    (carries : carried k h q g m ≡ Some b) where
  -- the slot of the definitions
  by_slot : {P : Type 0} → ((y : System) → system_of k ≡ Some y → carried_in y (slot h q (5 * g + m)) ≡ Some b → P) → P
  by_slot there =
      by_system k
      (λ none. absurd (omega (arith, z, macroblock_1 k f b none)))
      (λ y known. there y known (carried_is h q g m hg hm k y known hh (omega (arith, hq, (columns k y known).sequences_is)) ∙ carries))

  part_out : {part : List ℕ} → MacroblockRead k f b part → part ≡ bytes_at (sequences k) f h q (slot_place (5 * g + m)) 3 77
  unfolding slot_bytes
  part_out read =
      by_slot (λ y known is.
      read.answer ∙ macroblock_carried k f b y known z (slot h q (5 * g + m)) is ∙ rest_bytes y f h q (slot_place (5 * g + m))
      ∙ rw (columns k y known).sequences_is refl)

  slot_out : {r : Part} → MacroblockLies k f b r → r ≡ record { number = 0; start = start (sequences k) h q (slot_place (5 * g + m)) + 3; length = 77 }
  unfolding macroblock_at carrier_start slot_start
  slot_out lies =
      by_slot (λ y known is.
      lies.answer ∙ part_taken (macroblock_number k f b) _ 77 z
      ∙ rw (known, (carried_lies y (slot h q (5 * g + m)) b is).1, (columns k y known).sequences_is) refl)

pub macroblock_out : {k : ℕ} {f : List ℕ} {b : ℕ} {r : Part} → MacroblockLies k f b r → MacroblockOut k f b r
macroblock_out {k} {f} {b} lies = record {
  lies = λ z h q g m hh hq hg hm e. slot_out k f b (sym (macroblock_lies_number k f b lies) ∙ z) h q g m hh hq hg hm e lies;
}

-- ---- read_time

module _ (y : System) (f : List ℕ) (whole : length f ≡ 48000 * sequences_of y) where
  -- SC0 of DIF channel 0, sequence 0
  first_block : block_in (sequence_at y f 0 0) 1 ≡ block_at y f 0 0 1
  first_block = block_in_sequence y f 0 0 1 (omega arith)

  first_long : length (block_at y f 0 0 1) ≡ 80
  first_long = block_length y f 0 0 1 whole (omega arith) (sequences_some y) (omega arith)

  clock_out : four_bytes (settled y (time_first y f)) ≡ pick (eqb (rate_of y) 1) (with_bit6 (byte_at (sequences_of y) f 0 0 1 31)) (byte_at (sequences_of y) f 0 0 1 31)
      ∷ bytes_at (sequences_of y) f 0 0 1 32 3
  unfolding settled time_first tab run
  clock_out =
      ap₂ (λ (x : ℕ) (xs : List ℕ). pick (eqb (rate_of y) 1) (with_bit6 x) x ∷ xs) (byte_in y f 0 0 1 31 (omega arith) (omega arith))
      (rw first_block (tab_part 0 (block_at y f 0 0 1) 32 3 (omega (arith, first_long))) ∙ bytes_at_lem y f 0 0 1 32 3 (omega arith))

  group_out : four_bytes (group_first y f) ≡ bytes_at (sequences_of y) f 0 0 1 39 4
  unfolding group_first tab run
  group_out = rw first_block (tab_part 0 (block_at y f 0 0 1) 39 4 (omega (arith, first_long))) ∙ bytes_at_lem y f 0 0 1 39 4 (omega arith)

module _ {k : ℕ} {f : List ℕ} {r : TimeAnswer} (read : TimeRead k f r) (z : time_number k f ≡ 0) where
  by_time : {P : Type 0} → ((y : System) → system_of k ≡ Some y → P) → P
  by_time = by_system k (λ none. absurd (omega (arith, z, time_1 k f none)))

  answer_out : (r.time ≡ first_answered k (byte_at (sequences k) f 0 0 1 31) ∷ bytes_at (sequences k) f 0 0 1 32 3) × (r.group ≡ bytes_at (sequences k) f 0 0 1 39 4)
  answer_out =
      by_time (λ y known.
      let col = columns k y known in
      let whole = (time_zero k f y known z).0 in
      let found = time_taken k f y known z read in (
        ap (λ (x : TimeAnswer). x.time) found ∙ clock_out y f whole ∙ rw (col.sequences_is, col.rate_is) refl,
        ap (λ (x : TimeAnswer). x.group) found ∙ group_out y f whole ∙ rw col.sequences_is refl,
      ))

-- ---- all

pub read_out : {k : ℕ} {f : List ℕ} {c : ℕ} {samples : List ℤ} {b : ℕ} {o : Strict} → StrictlyRead k f c samples b o → ReadOut k f c samples b o
read_out {k} {f} {c} {samples} {b} {o} read =
    let audio : o.audio.number ≡ 0 → audio_number k f c (length samples) ≡ 0 = λ z. sym (audio_number_lem k f c samples read.audio) ∙ z in
    let time : o.time.number ≡ 0 → time_number k f ≡ 0 = λ z. sym (time_number_lem k f read.time) ∙ z in
    record {
      count = λ z. by_audio read.audio (audio z) (λ y known. count_is read.audio y known (audio z) ∙ count_first k y known f c);
      sample = λ z d t h.
          by_audio read.audio (audio z) (λ y known.
          sample_out read.audio y known (audio z) (λ e. d (sym (mode_first k y known f c) ∙ e)) t h ∙ rw (columns k y known).sequences_is refl);
      unrecorded = λ z mark t h. by_audio read.audio (audio z) (λ y known. lost_out read.audio y known (audio z) (mode_first k y known f c ∙ mark) t h);
      rest = λ z. by_audio read.audio (audio z) (λ y known. rest_out read.audio y known (audio z));
      size = length_out read.audio;
      macroblock = λ z h q g m hh hq hg hm e. part_out k f b (sym read.number.answer ∙ z) h q g m hh hq hg hm e read.part;
      time = λ z. (answer_out read.time (time z)).0;
      group = λ z. (answer_out read.time (time z)).1;
    }

-- ---- StrictlyRead: the five contracts, and no more
pub strict_five : {k : ℕ} {f : List ℕ} {c : ℕ} {samples : List ℤ} {b : ℕ} {o : Strict} → StrictlyRead k f c samples b o
    → Checked k f o.check × AudioRead k f c samples o.audio o.samples × MacroblockNumbered k f b o.number × MacroblockRead k f b o.part
    × TimeRead k f o.time
strict_five s = (s.check, s.audio, s.number, s.part, s.time)

pub five_strict : {k : ℕ} {f : List ℕ} {c : ℕ} {samples : List ℤ} {b : ℕ} {o : Strict} → Checked k f o.check
    → AudioRead k f c samples o.audio o.samples → MacroblockNumbered k f b o.number → MacroblockRead k f b o.part → TimeRead k f o.time
    → StrictlyRead k f c samples b o
five_strict a s n p t = record { check = a; audio = s; number = n; part = p; time = t }
