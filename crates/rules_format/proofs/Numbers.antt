-- The workshop of this crate's headline: its definitions in document 01's own numbers. Assumes nothing.
use mathlib.Core.Path.{◌≡◌, refl, sym, ap, ◌∙◌}
use mathlib.Core.Bool.{◌||◌}
use mathlib.Core.List.{List, ◌∷◌, []}
use Prim.Native.Nat.{ℕ, ◌+◌, ◌*◌, ◌/◌, ◌%◌, ◌≤◌, ◌<◌}
use native.Mathlib.Nat.{mul-add-div, div-eq_of_lt, mul-add-mod_self_left, mod-eq_of_lt}
use native.Mathlib.Omega.{arith}
use lib.Dec.{eqb, leb}
use lib.IntN.{pos, negsuc}
use lib.ListN.{get_or, take, drop}
use lib.Seq.{get_or-take, get_or-drop}
use Rattle.base.specs.Pick.{pick}
use Rattle.base.specs.Run.{run, tab}
use Rattle.base.proofs.Cases.{by_bool}
use Rattle.paper.specs.declared.System.{System}
use Rattle.paper.specs.declared.System.TheVariants.{I60, I50, P60, P50}
use Rattle.rules_format.specs.Systems.{sequences_of, half_of, positions_of, is_count}
use Rattle.rules_format.specs.Places.{code_of, section_of, place, places, entry_at}
use Rattle.rules_format.specs.Blocks.{block_at, sequence_at, block_in}
use Rattle.rules_format.specs.Samples.{number_of, in_range, word_at}
use Rattle.rules_format.specs.Sound.{dif_of, rank_of, sequence_of, sound_place, byte_of}
use Rattle.rules_format.specs.Faults.{names}
use Rattle.rules_format.specs.Stream.{named}
use Rattle.rules_format.specs.Reading.{sound_block, sound_named, read_sample}
use Rattle.paper.specs.Paper
use Rattle.paper.specs.Paper.{sound_start, sound_word, sample_by, figure3, channel_bits}
use Rattle.rules_format.specs.InNumbers.{InNumbers, SystemsInNumbers, IdsInNumbers, BlocksInNumbers, SoundInNumbers}
use Rattle.rules_format.proofs.Systems.{system_number, system_above, half_cases, half_twice, positions_half, sequences_some}
use Rattle.rules_format.proofs.Places.{place_for_entry, place_for_none, place_of_entry, entry_of_place, number_below}
use Rattle.rules_format.proofs.Ids.{channel_pairs, read_id_0, read_id_11, read_id_4}
use Rattle.rules_format.proofs.Blocks.{start_within, block_in_sequence, part_taken, part_refused}
use Rattle.rules_format.proofs.Samples.{lost_word, sample_lost, sample_level, sample_none, heard_is, word_is, back_is, all_in, all_pass}
use Rattle.rules_format.proofs.Sound.{rank_below, audio_below, word_below, sequence_below, sample_back, audio_sequence, rank_sequence_lem}
use Rattle.rules_format.proofs.Faults.{names_place, names_none}
use Rattle.rules_format.proofs.Paper.{id_is, fault_is, fault_judged, channel_by_lem, block_bytes, figure_section, figure_number}
use Rattle.rules_format.proofs.Reading.{salvaged_named, salvaged_lost}
use Rattle.rules_format.specs.Ids.{named_by, spare_in, id_at, id_bytes}
use Rattle.rules_format.proofs.Blocks

-- ---- is_count

count_60 : (y : System) (k : ℕ) → sequences_of y ≡ 10 → is_count y k ≡ (eqb k 1600 || eqb k 1602)
count_60 I60 k e = refl
count_60 I50 k e = absurd (omega (arith, e))
count_60 P60 k e = refl
count_60 P50 k e = absurd (omega (arith, e))

-- the pair of equal counts is one
count_twice : (k : ℕ) → (eqb k 1920 || eqb k 1920) ≡ eqb k 1920
count_twice k = by_bool (eqb k 1920) (λ e. rw e refl) (λ e. rw e refl)

count_50 : (y : System) (k : ℕ) → sequences_of y ≡ 12 → is_count y k ≡ eqb k 1920
count_50 I60 k e = absurd (omega (arith, e))
count_50 I50 k e = count_twice k
count_50 P60 k e = absurd (omega (arith, e))
count_50 P50 k e = count_twice k

-- ---- in_range

range_numbers : (n : ℕ) → (in_range (pos n) ≡ leb n 32768) × (in_range (negsuc n) ≡ leb n 32767)
unfolding in_range
range_numbers n = (refl, by_bool (leb n 32767) (λ e. rw e refl) (λ e. rw e refl))

-- ---- sound_block, sound_named: the block of a position, its word

module _ (y : System) (g : List ℕ) (c t : ℕ) where
  abbrev j : ℕ
  j = Paper.sound_index (sequences_of y) c t

  index_is : j ≡ (sequences_of y * dif_of c + sequence_of (half_of y) c t) * 150 + sound_place (half_of y) t
  unfolding half_of
  index_is = refl

  q_below : sequence_of (half_of y) c t < sequences_of y
  q_below = omega (arith, half_twice y, sequence_below (half_of y) c (rank_of (half_of y) t) (half_cases y) (rank_below (half_of y) (half_cases y) t))

  p_below : sound_place (half_of y) t < 150
  p_below = omega (arith, audio_below (half_of y) (half_cases y) t)

  pub sound_block_lem : sound_block y g c t ≡ take 80 (drop (j * 80) g)
  unfolding block_at
  sound_block_lem = ap (λ (x : ℕ). take 80 (drop (x * 80) g)) (sym index_is)

  pub sound_named_lem : sound_named y g c t ≡ named y g j
  sound_named_lem =
      let n = sequences_of y in
      let h = dif_of c in
      let q = sequence_of (half_of y) c t in
      let part : j / 150 ≡ n * h + q = omega (arith, index_is, p_below) in
      let place : j % 150 ≡ sound_place (half_of y) t = omega (arith, index_is, p_below) in
      let channel : (n * h + q) / n ≡ h = mul-add-div (sequences_some y) h q ∙ ap (λ (x : ℕ). h + x) (div-eq_of_lt q_below) ∙ omega arith in
      let dseq : (n * h + q) % n ≡ q = mul-add-mod_self_left n h q ∙ mod-eq_of_lt q_below in
      rw (part, place, channel, dseq) (ap (λ (b : List ℕ). names b h q (sound_place (half_of y) t)) sound_block_lem)

  -- it lies in the frame
  pub sound_within : 0 < c → c < 9 → j * 80 + 80 ≤ 48000 * sequences_of y
  sound_within c1 c8 = omega (arith, index_is, start_within y (dif_of c) (sequence_of (half_of y) c t) (sound_place (half_of y) t) (omega arith) q_below p_below)

  sound_byte : byte_of (half_of y) t ≡ 8 + 2 * (t / (9 * (sequences_of y / 2)))
  unfolding half_of
  sound_byte = refl

  module _ (ht : t < positions_of y) where
    -- a byte of the block, by its index in the frame
    block_byte : (i : ℕ) → i < 80 → get_or (sound_block y g c t) i 0 ≡ get_or g (j * 80 + i) 0
    block_byte i h = ap (λ (b : List ℕ). get_or b i 0) sound_block_lem ∙ get_or-take 80 (drop (j * 80) g) i 0 h ∙ get_or-drop (j * 80) g i 0

    pub word_within : 8 + 2 * (t / (9 * (sequences_of y / 2))) + 1 < 80
    unfolding half_of
    word_within = omega (arith, word_below (half_of y) (half_cases y) t (omega (arith, positions_half y, ht)))

    pub sound_high : get_or (sound_block y g c t) (byte_of (half_of y) t) 0 ≡ get_or g (sound_start (sequences_of y) c t) 0
    unfolding half_of
    sound_high = block_byte (8 + 2 * (t / (9 * (sequences_of y / 2)))) (omega (arith, word_within))

    pub sound_low : get_or (sound_block y g c t) (byte_of (half_of y) t + 1) 0 ≡ get_or g (sound_start (sequences_of y) c t + 1) 0
    unfolding half_of
    sound_low =
        let i = 8 + 2 * (t / (9 * (sequences_of y / 2))) in
        let e : j * 80 + (i + 1) ≡ j * 80 + i + 1 = omega arith in
        block_byte (i + 1) word_within ∙ ap (λ (x : ℕ). get_or g x 0) e

    pub sound_word_lem : word_at (sound_block y g c t) (byte_of (half_of y) t) ≡ sound_word (sequences_of y) g c t
    sound_word_lem = rw (sound_high, sound_low) refl

    pub sound_heard : number_of (read_sample y g c t) ≡ sample_by (sound_word (sequences_of y) g c t)
    unfolding read_sample
    sound_heard = heard_is (word_at (sound_block y g c t) (byte_of (half_of y) t)) ∙ ap sample_by sound_word_lem

-- ---- entry_at: figure 3

places_are : tab (λ (p : ℕ). (code_of (entry_at (place p)).section, (entry_at (place p)).number.0)) 150 ≡ figure3
unfolding tab run entry_at places figure3
places_are = refl

ids_are : (h q p : ℕ) → h < 4 → q < 16 → p < 150
    → id_bytes (id_at h q (place p)) ≡ (32 * Paper.section_at p + 31) ∷ (16 * q + 4 * channel_bits h + 3) ∷ Paper.number_at p ∷ []
unfolding id_at
ids_are h q p hh hq hp =
    id_is (entry_at (place p)).section h q (entry_at (place p)).number.0 hh hq (omega (arith, number_below p hp))
    ∙ rw (figure_section p, figure_number p) refl

-- ---- all, by subjects

systems_are : SystemsInNumbers
systems_are = record {
  systems = (
    record { system = system_number I60; numbers = (refl, refl, refl, refl, refl, refl) },
    record { system = system_number I50; numbers = (refl, refl, refl, refl, refl, refl) },
    record { system = system_number P60; numbers = (refl, refl, refl, refl, refl, refl) },
    record { system = system_number P50; numbers = (refl, refl, refl, refl, refl, refl) },
  );
  counts = λ y k. (count_60 y k, count_50 y k);
  no_system = system_above;
  system_numbers = (refl, refl, refl, refl);
  in_system = λ y test rows. (refl, refl, refl, refl, refl, refl);
  in_none = λ test rows. (refl, refl, refl);
}

id_answers_are : IdsInNumbers
unfolding section_of pick named_by spare_in
id_answers_are = record {
  sections = (refl, refl, refl, refl, refl);
  codes = (refl, refl, refl, refl, refl);
  channels = channel_pairs;
  bits = λ id. (refl, refl, refl, refl, refl, refl, refl);
  ids = id_is;
  ids_at = ids_are;
  read = λ id three l. read_id_0 id three l ∙ rw (channel_by_lem (get_or id 1 0)) refl;
  reserved = read_id_11;
  wrong_length = read_id_4;
  values = λ b s. (refl, refl, refl);
}

blocks_are : BlocksInNumbers
unfolding run sequence_at block_in
blocks_are = record {
  places = places_are;
  places_in = λ k. (refl, refl, refl, refl, refl);
  places_back = λ p h. (place_of_entry p h, place_for_entry p h);
  places_only = entry_of_place;
  no_place = place_for_none;
  starts = λ y h q p. refl;
  blocks = block_bytes;
  sequence_bytes = λ y f h q. refl;
  block_bytes = λ f p. refl;
  blocks_in_lem = λ y f h q p hp. block_in_sequence y f h q p hp ∙ block_bytes y f h q p;
  blocks_count = λ y. omega arith;
  holds_says = λ y k h q p i b. (b.channel, b.sequence, b.place, b.offset, b.is);
  holds_cover = Blocks.holds_some;
  holds_one = λ y k h q p i h' q' p' i' a b. Blocks.holds_one a b;
  holds_within = λ y k h q p i b. Blocks.holds_within b;
  parts = λ start size. part_taken 0 start size refl;
  no_part = part_refused;
  part_bytes = λ f r. refl;
  names = λ y g j e. names_place _ _ _ _ e;
  names_not = λ y g j e n. names_none _ _ _ _ e n;
  names_in = λ block h q p l. ap (λ (x : ℕ). eqb x 0) (fault_is block h q p l);
  faults = fault_is;
  spare = fault_judged;
}

sound_is : SoundInNumbers
unfolding pick
sound_is = record {
  sound = λ y g c t. (sound_named_lem y g c t, sound_block_lem y g c t, sound_byte y g c t);
  sound_parts = λ s c t. (refl, refl, refl, refl, refl);
  sound_first = λ s r a w. refl;
  sound_back = λ s half t. sample_back s half t;
  audio_back = λ s half c r hc hr. (audio_sequence s c r half hr hc, rank_sequence_lem s c r half hr);
  range = range_numbers;
  all_in_range_lem = λ xs e i l. all_in xs i e l;
  all_passes = all_pass;
  lost = (sample_lost, lost_word.0);
  sample_numbers = λ z. (refl, refl);
  levels = sample_level;
  no_sample = sample_none;
  hears = heard_is;
  words = λ z e. (word_is z e, back_is z e);
  bytes = λ w. refl;
  heard = sound_heard;
  salvaged = salvaged_named;
  salvaged_lost = salvaged_lost;
}

pub in_numbers : InNumbers
in_numbers = record { of_systems = systems_are; of_ids = id_answers_are; of_blocks = blocks_are; of_sound = sound_is }
