-- A written frame has the form of document 01, byte by byte, and holds what the writer was given. Assumes nothing.
use Rattle.std.specs.Prelude.{Some}
use mathlib.Core.Path.{◌≡◌, refl, sym, ap, ap₂, ◌∙◌, subst}
use mathlib.Core.Bool.{true}
use mathlib.Core.Logic.{inl, inr, ⊎_elim}
use mathlib.Core.List.{List, [], ◌∷◌, ◌++◌}
use Prim.Native.Nat.{ℕ, ◌+◌, ◌*◌, ◌/◌, ◌%◌, ◌≤◌, ◌<◌}
use native.Mathlib.Omega.{arith}
use lib.ListN.{length, get_or, take, drop, replicate, length-drop}
use lib.Seq.{take_all, drop-drop, take-append-le, drop-append-le}
use Rattle.base.specs.Pick.{pick}
use Rattle.base.specs.Run.{run, Wide}
use Rattle.base.proofs.Parts.{part_part}
use Rattle.base.proofs.Runs.{end_within, length_run, run_at}
use Rattle.paper.specs.declared.System.{System}
use Rattle.paper.specs.declared.Section.{Section}
use Rattle.paper.specs.declared.Section.TheVariants.{Header, Subcode, Vaux, Audio, Video}
use Rattle.paper.specs.declared.Pack.{Pack}
use Rattle.paper.specs.declared.SubcodeData.{SubcodeData}
use Rattle.rules_format.specs.Systems.{sequences_of, half_of, positions_of, is_count, system_of}
use Rattle.rules_format.specs.Places.{blocks_of, place_in, entry_at, place}
use Rattle.rules_format.specs.Ids.{id_bytes, id_of}
use Rattle.rules_format.specs.Blocks.{start_of, block_at}
use Rattle.rules_packs.specs.Packs.{pack_bytes, four_bytes, pair_at}
use Rattle.rules_packs.specs.TimeCode.{time_pack, group_pack, time_taken}
use Rattle.rules_packs.specs.Repeated.{subcode_of}
use Rattle.rules_packs.specs.Subcode.{is_first, kind_of, ssyb, ssybs, subcode_bytes}
use Rattle.rules_packs.specs.Vaux.{vs_pack, vsc_pack, vaux_pack, vaux_packs, vaux_bytes}
use Rattle.rules_packs.specs.Aaux
use Rattle.rules_packs.specs.Aaux.{as_at, size_of, count_of, asc_pack, aaux_pack}
use Rattle.rules_format.specs.Sound.{audio_at}
use Rattle.rules_picture.specs.Picture.{slot}
use Rattle.promises.specs.Contents.{Contents}
use Rattle.rules_writes.specs.Written.{audio_bytes, payload, entry_block, written_block}
use Rattle.rules_writes.specs.Write.{material, written_frame, Takes, Wrote}
use Rattle.paper.specs.Bytes.{ssyb_form, aaux_form, size_form, OwnCount, header_form, vaux_form}
use Rattle.promises.specs.Form.{time_bytes, group_bytes, cut, id_form, HasForm}
use Rattle.rules_packs.proofs.Written.{header_form_lem, vaux_form_lem, ssyb_form_lem, aaux_form_lem, four_again}
use Rattle.paper.specs.Paper.{sequences, byte_at, bytes_at, sound_start, sound_word, word_by, as_pack, count_by, count_said, channel_bits}
use Rattle.promises.specs.Demand2.{given, LaidOut}
use Rattle.rules_format.proofs.Systems.{count_cases, count_below, sequences_le, sequences_some}
use Rattle.rules_packs.proofs.Packs.{taken_means}
use Rattle.rules_packs.proofs.Subcode.{ssyb_length, subcode_rest, first_when}
use Rattle.rules_packs.proofs.Vaux.{vaux_rest}
use Rattle.rules_packs.proofs.Aaux.{size_below, as_count}
use Rattle.rules_format.proofs.Samples.{word_is, bytes_word}
use Rattle.rules_picture.proofs.Picture.{carried_lies}
use Rattle.rules_writes.proofs.Written.{payload_length, frame_length, frame_block, frame_payload, stored_word, frame_high, frame_low, given_in, stored_word_lem}
use Rattle.rules_writes.proofs.Written.{stored_tail, frame_macroblock, frame_empty}
use Rattle.rules_format.proofs.Paper.{Columns, columns, by_system, figure_section, figure_number, id_is}
use Rattle.rules_format.proofs.Numbers.{sound_high, sound_low}
use Rattle.rules_picture.proofs.Slots.{carried_is}
use Rattle.promises.proofs.LaidOut.{cut_part, cut_byte}
use Rattle.rules_writes.proofs.Write.{write_1, write_takes, write_taken}
use Rattle.rules_format.proofs.Places.{number_below}

-- ---- id_bytes

id_form_lem : (h q p : ℕ) → h < 4 → q < 16 → p < 150 → id_form h q p ≡ id_bytes (id_of h q (entry_at (place p)).section (entry_at (place p)).number.0)
id_form_lem h q p hh hq hp =
    ap₂ (λ (s n : ℕ). (32 * s + 31) ∷ (16 * q + 4 * channel_bits h + 3) ∷ n ∷ []) (sym (figure_section p)) (sym (figure_number p))
    ∙ sym (id_is _ h q _ hh hq (omega (arith, number_below p hp)))

-- ---- run

-- part j of a run that stands from byte a on
run_cut : (b : List ℕ) (a w k : ℕ) (g : ℕ → List ℕ) (rest : List ℕ) → Wide w g → drop a b ≡ run g k ++ rest → (j : ℕ) → j < k → take w (drop (a + j * w) b) ≡ g j
run_cut b a w k g rest s e j h =
    let n = length_run w g s k in
    let within : j * w ≤ length (run g k) = omega (arith, n, end_within w j k h) in
    let room : w ≤ length (drop (j * w) (run g k)) = omega (arith, n, end_within w j k h, length-drop (j * w) (run g k)) in
    sym (ap (take w) (drop-drop (j * w) a b))
    ∙ ap (λ (l : List ℕ). take w (drop (j * w) l)) e
    ∙ ap (take w) (drop-append-le (j * w) (run g k) rest within)
    ∙ take-append-le w (drop (j * w) (run g k)) rest room
    ∙ run_at w g s j k h

-- ---- size_form

size_high : (count : ℕ) → size_form count / 64 ≡ 1
unfolding size_form size_of
size_high count = omega (arith, size_below count)

-- ---- HasForm

module _ (k : ℕ) (y : System) (known : system_of k ≡ Some y) (l : Contents) where
  w : List ℕ
  w = written_frame y l

  abbrev time : Pack
  time = time_pack l.time_code

  abbrev group : Pack
  group = group_pack l.binary_group

  abbrev said : SubcodeData
  said = subcode_of l.time_code l.binary_group

  abbrev is : Columns k y
  is = columns k y known

  within : {q : ℕ} → q < sequences k → q < sequences_of y
  within {q} = subst (λ (n : ℕ). q < n) is.sequences_is

  cut_is : (h q p i m : ℕ) → i + m ≤ 80 → cut k w h q p i m ≡ take m (drop i (block_at y w h q p))
  unfolding block_at
  cut_is h q p i m room = ap (λ (n : ℕ). bytes_at n w h q p i m) is.sequences_is ∙ sym (part_part (start_of y h q p) 80 i m w room)

  module _ (h q : ℕ) (hh : h < 4) (hq : q < sequences_of y) where
    id_written : (p : ℕ) → p < 150 → cut k w h q p 0 3 ≡ id_form h q p
    unfolding w written_block entry_block id_bytes
    id_written p hp = cut_is h q p 0 3 (omega arith) ∙ ap (take 3) (frame_block y l h q p hh hq hp) ∙ sym (id_form_lem h q p hh (omega (arith, sequences_le y)) hp)

    -- the bytes behind an ID
    module _ (s : Section) (b : ℕ) (hb : b < blocks_of s) where
      abbrev block : List ℕ
      block = block_at y (written_frame y l) h q (place_in s b)

      -- all of them
      behind_written : cut k w h q (place_in s b) 3 77 ≡ drop 3 block
      unfolding w
      behind_written =
          let behind = frame_payload y l h q s b hh hq hb in
          cut_is h q (place_in s b) 3 77 (omega arith) ∙ take_all 77 (drop 3 block) (omega (arith, payload_length y (material y l) h q s b, ap length behind))

      -- those from byte a on
      rest_written : (a n : ℕ) (rest : List ℕ) → drop a (payload y (material y l) h q s b) ≡ rest → length rest ≤ n → 3 + a + n ≤ 80 → cut k w h q (place_in s b) (3 + a) n ≡ rest
      unfolding w
      rest_written a n rest e long room =
          cut_is h q (place_in s b) (3 + a) n room
          ∙ ap (take n) (sym (drop-drop a 3 block) ∙ ap (drop a) (frame_payload y l h q s b hh hq hb) ∙ e)
          ∙ take_all n rest long

      -- part j of a run
      run_written : (u m : ℕ) (g : ℕ → List ℕ) (rest : List ℕ) → Wide u g → payload y (material y l) h q s b ≡ run g m ++ rest → (j a : ℕ) → j < m → a ≡ 3 + j * u → a + u ≤ 80
          → cut k w h q (place_in s b) a u ≡ g j
      unfolding w
      run_written u m g rest wide e j a hj at room =
          cut_is h q (place_in s b) a u room
          ∙ ap (λ (i : ℕ). take u (drop i block)) at
          ∙ run_cut block 3 u m g rest wide (frame_payload y l h q s b hh hq hb ∙ e) j hj

    header_written : cut k w h q 0 3 77 ≡ header_form k
    unfolding payload
    header_written = behind_written Header 0 (omega arith) ∙ frame_payload y l h q Header 0 hh hq (omega arith) ∙ sym (header_form_lem k y known)

    -- ---- subcode

    ssyb_written : (j : ℕ) → j < 12 → cut k w h q (1 + j / 6) (3 + 8 * (j % 6)) 8 ≡ ssyb (is_first y q) said j
    unfolding payload subcode_bytes ssybs
    ssyb_written j hj =
        let six : ℕ → List ℕ = λ i. ssyb (is_first y q) said (6 * (j / 6) + i) in
        let n : 6 * (j / 6) + j % 6 ≡ j = omega arith in
        run_written Subcode (j / 6) (omega arith) 8 6 six (replicate 29 0xFF) (λ i. ssyb_length said (6 * (j / 6) + i) (is_first y q)) refl
        (j % 6) (3 + 8 * (j % 6)) (omega arith) (omega arith) (omega arith)
        ∙ ap (ssyb (is_first y q) said) n

    subcode_ones_written : (j : ℕ) → j < 2 → cut k w h q (1 + j) 51 29 ≡ replicate 29 0xFF
    unfolding payload
    subcode_ones_written j hj = rest_written Subcode j hj 48 29 (replicate 29 0xFF) (subcode_rest _ _ _) (omega arith) (omega arith)

    -- ---- VAUX

    vaux_written : (j : ℕ) → j < 45 → cut k w h q (3 + j / 15) (3 + 5 * (j % 15)) 5 ≡ vaux_form k q j
    unfolding payload vaux_bytes vaux_packs
    vaux_written j hj =
        let fifteen : ℕ → List ℕ = λ i. pack_bytes (vaux_pack (vs_pack y) vsc_pack q (15 * (j / 15) + i)) in
        let n : 15 * (j / 15) + j % 15 ≡ j = omega arith in
        run_written Vaux (j / 15) (omega arith) 5 15 fifteen (0xFF ∷ 0xFF ∷ []) (λ i. refl) refl (j % 15) (3 + 5 * (j % 15)) (omega arith) (omega arith) (omega arith)
        ∙ ap (λ (i : ℕ). pack_bytes (vaux_pack (vs_pack y) vsc_pack q i)) n
        ∙ sym (vaux_form_lem k y known q j)

    vaux_ones_written : (j : ℕ) → j < 3 → cut k w h q (3 + j) 78 2 ≡ replicate 2 0xFF
    unfolding payload
    vaux_ones_written j hj = rest_written Vaux j hj 75 2 (replicate 2 0xFF) (vaux_rest _ _ _ _) (omega arith) (omega arith)

    -- ---- AAUX

    aaux_written : (a : ℕ) → a < 9 → cut k w h q (6 + 16 * a) 3 5 ≡ pack_bytes (aaux_pack (Aaux.as_pack y l.count (audio_at (half_of y) h q)) asc_pack q a)
    unfolding w payload audio_bytes
    aaux_written a ha = cut_is h q (6 + 16 * a) 3 5 (omega arith) ∙ ap (take 5) (frame_payload y l h q Audio a hh hq ha)

  -- ---- DIF channel 0, sequence 0

  time_first : cut k w 0 0 1 31 4 ≡ four_bytes time
  unfolding ssyb kind_of
  time_first =
      let first = first_when y 0 (sequences_some y) in
      cut_part (sequences k) w 0 0 1 27 8 4 4 (omega arith)
      ∙ ap (λ (b : List ℕ). take 4 (drop 4 b)) (ssyb_written 0 0 (omega arith) (sequences_some y) 3 (omega arith))
      ∙ rw first refl

  group_first : cut k w 0 0 1 39 4 ≡ four_bytes group
  unfolding ssyb kind_of
  group_first =
      let first = first_when y 0 (sequences_some y) in
      cut_part (sequences k) w 0 0 1 35 8 4 4 (omega arith)
      ∙ ap (λ (b : List ℕ). take 4 (drop 4 b)) (ssyb_written 0 0 (omega arith) (sequences_some y) 4 (omega arith))
      ∙ rw first refl

  size_first : byte_at (sequences k) w 0 0 54 4 ≡ size_form l.count
  unfolding pair_at as_at Aaux.as_pack pick size_form size_of
  size_first = cut_byte (sequences k) w 0 0 54 3 5 1 (omega arith) ∙ ap (λ (b : List ℕ). get_or b 1 0) (aaux_written 0 0 (omega arith) (sequences_some y) 3 (omega arith))

  -- ---- sound

  module _ (c t : ℕ) (c1 : 0 < c) (c8 : c < 9) (ht : t < positions_of y) where
    high_written : get_or w (sound_start (sequences k) c t) 0 ≡ stored_word l c t / 256
    unfolding w
    high_written = rw is.sequences_is (sym (sound_high y (written_frame y l) c t ht) ∙ frame_high y l c t c1 c8 ht)

    low_written : get_or w (sound_start (sequences k) c t + 1) 0 ≡ stored_word l c t % 256
    unfolding w
    low_written = rw is.sequences_is (sym (sound_low y (written_frame y l) c t ht) ∙ frame_low y l c t c1 c8 ht)

    word_written : sound_word (sequences k) w c t ≡ stored_word l c t
    word_written = ap₂ (λ (x z : ℕ). x * 256 + z) high_written low_written ∙ bytes_word (stored_word l c t)

  -- ---- all

  module _ (own : is_count y l.count ≡ true) where
    count_first : count_said (sequences k) w 0 0 ≡ l.count
    unfolding as_pack pick count_by count_of Aaux.as_pack size_form size_of
    count_first = ap (λ (b : ℕ). count_by (b % 64)) size_first ∙ as_count y l.count 1 own

    own_first : OwnCount k (count_said (sequences k) w 0 0)
    own_first = ⊎_elim (λ e. inl (count_first ∙ e ∙ sym is.fewer_is)) (λ e. inr (count_first ∙ e ∙ sym is.more_is)) (count_cases y l.count own)

    time_is : length l.time_code ≡ 4 → time_bytes k (written_frame y l) ≡ l.time_code
    unfolding w
    time_is four = time_first ∙ four_again l.time_code four

    group_is : length l.binary_group ≡ 4 → group_bytes k (written_frame y l) ≡ l.binary_group
    unfolding w
    group_is four = group_first ∙ four_again l.binary_group four

    pub written_form : time_taken y (time_pack l.time_code) ≡ true → length l.time_code ≡ 4 → length l.binary_group ≡ 4 → HasForm k (written_frame y l)
    unfolding w
    written_form taken four four' = record {
      size = frame_length y l ∙ ap (λ (n : ℕ). 48000 * n) (sym is.sequences_is);
      ids = λ h q p hh hq. id_written h q hh (within hq) p;
      headers = λ h q hh hq. header_written h q hh (within hq);
      ssybs = λ h q j hh hq hj.
          ssyb_written h q hh (within hq) j hj
          ∙ sym (ssyb_form_lem k y known l.time_code l.binary_group four four' q j hj)
          ∙ ap₂ (λ (time group : List ℕ). ssyb_form k time group q j) (sym (time_is four)) (sym (group_is four'));
      subcode_ones = λ h q j hh hq. subcode_ones_written h q hh (within hq) j;
      bit_6 = λ r.
          ap (λ (b : ℕ). b / 64 % 2) (cut_byte (sequences k) w 0 0 1 31 4 0 (omega arith) ∙ ap (λ (b : List ℕ). get_or b 0 0) time_first)
          ∙ (taken_means y time taken).0 (sym is.rate_is ∙ r);
      vaux = λ h q j hh hq. vaux_written h q hh (within hq) j;
      vaux_ones = λ h q j hh hq. vaux_ones_written h q hh (within hq) j;
      aaux = λ h q a hh hq ha. aaux_written h q hh (within hq) a ha ∙ sym (aaux_form_lem k y known l.count h q (within hq) a) ∙ ap (λ (size : ℕ). aaux_form k size q a) (sym size_first);
      lf = ap (λ (b : ℕ). b / 64) size_first ∙ size_high l.count;
      own = own_first;
      tails = λ c t c1 c8 past ht.
          word_written c t c1 c8 (subst (λ (n : ℕ). t < n) is.positions_is ht) ∙ stored_tail l c t (subst (λ (n : ℕ). n ≤ t) count_first past);
      empty = λ h q g m hh hq hg hm e.
          behind_written h q hh (within hq) Video (5 * g + m) (omega arith)
          ∙ frame_empty y l h q (5 * g + m) hh (within hq) (omega arith) (carried_is h q g m hg hm k y known hh (within hq) ∙ e);
    }

-- ---- LaidOut

module _ (k : ℕ) (y : System) (known : system_of k ≡ Some y) (l : Contents) (size : ℕ) (takes : Takes y l size) where
  -- the word of a sample that was given
  word_given : (c t : ℕ) → 0 < c → c < 9 → t < l.count → stored_word l c t ≡ word_by (given l c t)
  word_given c t c1 c8 ht = stored_word_lem l c t c1 c8 takes.sounds takes.levels ht ∙ word_is (given l c t) (given_in l c t c1 c8 takes.sounds takes.levels ht)

  in_positions : {t : ℕ} → t < l.count → t < positions_of y
  in_positions h = omega (arith, h, count_below y l.count takes.counts)

  pub laid_out : LaidOut k l (written_frame y l)
  unfolding w
  laid_out = record {
    form = written_form k y known l takes.counts takes.clock takes.times takes.groups;
    count = count_first k y known l takes.counts;
    time = time_is k y known l takes.counts takes.times;
    group = group_is k y known l takes.counts takes.groups;
    high = λ c t c1 c8 ht. high_written k y known l c t c1 c8 (in_positions ht) ∙ ap (λ (x : ℕ). x / 256) (word_given c t c1 c8 ht);
    low = λ c t c1 c8 ht. low_written k y known l c t c1 c8 (in_positions ht) ∙ ap (λ (x : ℕ). x % 256) (word_given c t c1 c8 ht);
    macroblock = λ h q g m b hh hq hg hm e.
        let hq' = within k y known l hq in
        let carries = carried_is h q g m hg hm k y known hh hq' ∙ e in
        behind_written k y known l h q hh hq' Video (5 * g + m) (omega arith)
        ∙ frame_macroblock y l h q (5 * g + m) hh hq' (omega arith) b carries (omega (arith, takes.pictures, (carried_lies y (slot h q (5 * g + m)) b carries).0));
  }

-- of any frame that the writer made
pub frame_laid : {k : ℕ} {l : Contents} {frame f : List ℕ} → Wrote k l frame 0 f → LaidOut k l f
frame_laid {k} {l} {frame} wrote =
    by_system k
    (λ none. absurd (omega (arith, wrote.answer, write_1 k l (length frame) none)))
    (λ y known.
    let takes = write_takes k y known l frame wrote in
    subst (LaidOut k l) (sym (write_taken k y known l frame takes wrote).1) (laid_out k y known l (length frame) takes))
