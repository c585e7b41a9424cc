-- Laws of a written frame: its length, its blocks, that each names its place, and what stands in them. Assumes nothing.
use Rattle.std.specs.Prelude.{Option, Some, None}
use mathlib.Core.Path.{◌≡◌, refl, ap, ap₂, ◌∙◌, subst}
use mathlib.Core.Bool.{true, false}
use mathlib.Core.List.{List, ◌++◌}
use Prim.Native.Nat.{ℕ, ◌+◌, ◌-◌, ◌*◌, ◌/◌, ◌%◌, ◌≤◌, ◌<◌}
use native.Mathlib.Nat.{le_trans, mul_comm, mul_assoc}
use native.Mathlib.Omega.{arith}
use lib.IntN.{ℤ, pos}
use lib.ListN.{length, take, drop, get_or, replicate, length-take}
use lib.Seq.{get_or-append-add, get_or-take, get_or-drop}
use borrow.Author.Tests.{eq-eqb, lt-ltb, le-ltb}
use Rattle.base.specs.Run.{run, Wide}
use Rattle.base.proofs.Picks.{pick_true, pick_false}
use Rattle.base.proofs.Parts.{length_part}
use Rattle.base.proofs.Runs.{end_within, length_run, run_at, run_part, run_element, length_tab, tab_part}
use Rattle.paper.specs.declared.System.{System}
use Rattle.paper.specs.declared.Section.{Section}
use Rattle.paper.specs.declared.Section.TheVariants.{Header, Subcode, Vaux, Audio, Video}
use Rattle.paper.specs.declared.BlockId.{BlockId}
use Rattle.paper.specs.declared.Pack.{Pack}
use Rattle.rules_format.specs.Systems.{sequences_of, half_of, positions_of, rate_of}
use Rattle.rules_format.specs.Places.{place, entry_at, place_in, blocks_of}
use Rattle.rules_format.specs.Ids.{id_bytes, id_of, id_at}
use Rattle.rules_format.specs.Blocks.{start_of, block_at}
use Rattle.rules_packs.specs.Packs.{pack_bytes}
use Rattle.rules_packs.specs.Header.{header_bytes, dsf_ok, flagged}
use Rattle.rules_packs.specs.TimeCode.{time_pack, group_pack}
use Rattle.rules_packs.specs.Repeated.{subcode_of}
use Rattle.rules_packs.specs.Subcode.{is_first, kind_of, subcode_pack, ssyb_pack}
use Rattle.rules_packs.specs.Vaux.{vs_at, vs_pack, vsc_pack, vaux_pack, vaux_bytes, vaux_block, vaux_in}
use Rattle.rules_packs.specs.Aaux.{as_at, as_pack, asc_pack, aaux_pack, aaux_in}
use Rattle.rules_format.specs.Samples.{number_of, in_range, sample_of, all_in_range, word_for, bytes_of, word_at, back_of}
use Rattle.rules_format.specs.Sound as sound
use Rattle.rules_format.specs.Sound.{dif_of, half_at, rank_of, audio_of, word_number, byte_of, audio_at, sample_at}
use Rattle.rules_picture.specs.Picture.{slot, carried_in}
use Rattle.rules_format.specs.Faults.{fault_at}
use Rattle.promises.specs.Contents.{Contents}
use Rattle.rules_writes.specs.Written.{samples_of, sample_word, word_bytes, audio_bytes, carried_bytes, video_bytes, Material, payload, entry_block, written_block}
use Rattle.rules_writes.specs.Written.{written_sequence, written_channel}
use Rattle.rules_writes.specs.Write.{material, written_frame}
use Rattle.rules_format.proofs.Systems.{half_cases, half_twice, positions_half, sequences_le}
use Rattle.rules_format.proofs.Places.{place_in_below, entry_place_in}
use Rattle.rules_packs.proofs.Packs.{pair_source, header_length, dsf_written, flags_written}
use Rattle.rules_packs.proofs.Subcode.{subcode_length, subcode_pack_lem}
use Rattle.rules_packs.proofs.Vaux.{vs_below, vaux_length, vaux_pack_lem}
use Rattle.rules_packs.proofs.Aaux.{as_below}
use Rattle.rules_format.proofs.Faults.{written_names}
use Rattle.rules_format.proofs.Samples.{bytes_word, number_again, all_in}
use Rattle.rules_format.proofs.Sound.{Half, sample_back, rank_below, audio_below, word_below, rank_sequence_lem, audio_sequence, sequence_below}

-- ---- how long each thing is

pub word_wide : (y : System) (samples : List ℤ) (q a : ℕ) → Wide 2 (word_bytes y samples q a)
unfolding word_bytes
word_wide y samples q a w = refl

pub audio_length : (y : System) (source asc : Pack) (samples : List ℤ) (q a : ℕ) → length (audio_bytes y source asc samples q a) ≡ 77
unfolding audio_bytes
audio_length y source asc samples q a = omega (arith, length_run 2 (word_bytes y samples q a) (word_wide y samples q a) 36)

carried_length : (macroblocks : List ℕ) (c : Option ℕ) → length (carried_bytes macroblocks c) ≡ 77
unfolding carried_bytes
carried_length macroblocks (Some b) = length_tab _ 77
carried_length macroblocks None = refl

pub video_length : (y : System) (macroblocks : List ℕ) (h q v : ℕ) → length (video_bytes y macroblocks h q v) ≡ 77
unfolding video_bytes
video_length y macroblocks h q v = carried_length macroblocks _

pub payload_length : (y : System) (m : Material) (h q : ℕ) (s : Section) (k : ℕ) → length (payload y m h q s k) ≡ 77
unfolding payload
payload_length y m h q Header k = header_length y
payload_length y m h q Subcode k = subcode_length _ _ _
payload_length y m h q Vaux k = vaux_length _ _ _ _
payload_length y m h q Audio k = audio_length y _ _ _ _ _
payload_length y m h q Video k = video_length y _ _ _ _

pub block_wide : (y : System) (m : Material) (h q : ℕ) → Wide 80 (written_block y m h q)
unfolding written_block entry_block id_bytes
block_wide y m h q p = omega (arith, payload_length y m h q (entry_at (place p)).section (entry_at (place p)).number.0)

pub sequence_wide : (y : System) (m : Material) (h : ℕ) → Wide 12000 (written_sequence y m h)
unfolding written_sequence
sequence_wide y m h q = length_run 80 _ (block_wide y m h _) 150

pub channel_wide : (y : System) (m : Material) → Wide (sequences_of y * 12000) (written_channel y m)
unfolding written_channel
channel_wide y m h = length_run 12000 (written_sequence y m h) (sequence_wide y m h) (sequences_of y)

pub frame_length : (y : System) (l : Contents) → length (written_frame y l) ≡ 48000 * sequences_of y
unfolding written_frame
frame_length y l = length_run (sequences_of y * 12000) (written_channel y (material y l)) (channel_wide y (material y l)) 4 ∙ omega arith

-- ---- block_at: the block at a place is the one that was written there, and names its place

start_parts : (y : System) (h q p : ℕ) → start_of y h q p ≡ h * (sequences_of y * 12000) + (q * 12000 + p * 80)
start_parts y h q p = omega (arith, mul_comm (sequences_of y) h, mul_assoc h (sequences_of y) 12000)

module _ (y : System) (l : Contents) (h q p : ℕ) (hh : h < 4) (hq : q < sequences_of y) (hp : p < 150) where
  pub frame_block : block_at y (written_frame y l) h q p ≡ written_block y (material y l) h q p
  unfolding written_frame written_channel written_sequence block_at
  frame_block =
      let n : ℕ = sequences_of y in
      let m : Material = material y l in
      ap (λ (i : ℕ). take 80 (drop i (written_frame y l))) (start_parts y h q p)
      ∙ run_part (n * 12000) (written_channel y m) (channel_wide y m) h 4 (q * 12000 + p * 80) 80 hh (omega (arith, end_within 12000 q n hq))
      ∙ run_part 12000 (written_sequence y m h) (sequence_wide y m h) q n (p * 80) 80 hq (omega arith)
      ∙ run_at 80 (written_block y m h q) (block_wide y m h q) p 150 hp

  pub frame_names : fault_at (block_at y (written_frame y l) h q p) h q p ≡ 0
  unfolding written_block entry_block id_at
  frame_names =
      ap (λ (b : List ℕ). fault_at b h q p) frame_block
      ∙ written_names (payload y (material y l) h q (entry_at (place p)).section (entry_at (place p)).number.0) h q p hh (omega (arith, sequences_le y)) hp

-- ---- payload: the block of a section is its ID and its 77 bytes

pub block_entry : (y : System) (m : Material) (h q : ℕ) (s : Section) (k : ℕ) → k < blocks_of s → written_block y m h q (place_in s k) ≡ id_bytes (id_of h q s k) ++ payload y m h q s k
unfolding written_block entry_block
block_entry y m h q s k hk = ap (entry_block y m h q) (entry_place_in s k hk)

module _ (y : System) (l : Contents) (h q : ℕ) (s : Section) (k : ℕ) (hh : h < 4) (hq : q < sequences_of y) (hk : k < blocks_of s) where
  pub frame_entry : block_at y (written_frame y l) h q (place_in s k) ≡ id_bytes (id_of h q s k) ++ payload y (material y l) h q s k
  frame_entry = frame_block y l h q (place_in s k) hh hq (place_in_below s k hk) ∙ block_entry y (material y l) h q s k hk

  pub frame_payload : drop 3 (block_at y (written_frame y l) h q (place_in s k)) ≡ payload y (material y l) h q s k
  unfolding id_bytes
  frame_payload = ap (drop 3) frame_entry

-- ---- samples_of: the samples of an audio channel are as many as its count

module _ (count : ℕ) (sound : List ℤ) (c : ℕ) (c1 : 0 < c) (c8 : c < 9) (sounds : length sound ≡ 8 * count) where
  pub samples_end : (c - 1) * count + count ≤ length sound
  samples_end = omega (arith, end_within count (c - 1) 8 (omega arith))

  pub samples_length : length (samples_of count sound c) ≡ count
  unfolding samples_of
  samples_length = length_part ((c - 1) * count) count sound samples_end

-- ---- audio_bytes

-- byte i of word w of an audio block
audio_byte : (y : System) (source asc : Pack) (samples : List ℤ) (q a : ℕ) (id : BlockId) (w i : ℕ) → w < 36 → i < 2
    → get_or (id_bytes id ++ audio_bytes y source asc samples q a) (8 + (w * 2 + i)) 0 ≡ get_or (word_bytes y samples q a w) i 0
unfolding id_bytes audio_bytes
audio_byte y source asc samples q a id w i hw hi =
    let pack : List ℕ = pack_bytes (aaux_pack source asc q a) in
    let words : List ℕ = run (word_bytes y samples q a) 36 in
    let e : 8 + (w * 2 + i) ≡ length (id_bytes id) + (length pack + (w * 2 + i)) = omega arith in
    ap (λ (j : ℕ). get_or (id_bytes id ++ (pack ++ words)) j 0) e
    ∙ get_or-append-add (id_bytes id) (pack ++ words) (length pack + (w * 2 + i)) 0
    ∙ get_or-append-add pack words (w * 2 + i) 0
    ∙ run_element 0 2 (word_bytes y samples q a) (word_wide y samples q a) w 36 i hw hi

-- ---- stored_word: the word at the place of sample t is that sample's

-- the word of position t of audio channel c
abbrev pub stored_word : Contents → ℕ → ℕ → ℕ
stored_word l c t = sample_word (samples_of l.count l.sound c) t

module _ (y : System) (l : Contents) (c t : ℕ) (c1 : 0 < c) (c8 : c < 9) (ht : t < positions_of y) where
  s : ℕ
  s = half_of y

  half : Half (half_of y)
  half = half_cases y

  abbrev q : ℕ
  q = sound.sequence_of (half_of y) c t

  t_below : t < 36 * (9 * half_of y)
  t_below = omega (arith, positions_half y)

  dif_below : dif_of c < 4
  dif_below = omega arith

  sequence_in : q < sequences_of y
  sequence_in = omega (arith, half_twice y, sequence_below (half_of y) c (rank_of (half_of y) t) half (rank_below (half_of y) half t))

  -- its block
  abbrev pub sound_block : List ℕ
  sound_block = block_at y (written_frame y l) (dif_of c) q (sound.sound_place (half_of y) t)

  pub sound_names : fault_at sound_block (dif_of c) q (sound.sound_place (half_of y) t) ≡ 0
  sound_names =
      frame_names y l (dif_of c) q (sound.sound_place (half_of y) t) dif_below sequence_in
      (place_in_below Audio (audio_of (half_of y) t) (audio_below (half_of y) half t))

  -- its audio channel is c, and word w its sample t
  channel_is : audio_at (half_of y) (dif_of c) q ≡ c
  channel_is = audio_sequence (half_of y) c (rank_of (half_of y) t) half (rank_below (half_of y) half t) c1

  sample_is : sample_at (half_of y) (sound.rank_at (half_of y) q) (audio_of (half_of y) t) (word_number (half_of y) t) ≡ t
  sample_is =
      ap (λ (r : ℕ). sample_at (half_of y) r (audio_of (half_of y) t) (word_number (half_of y) t)) (rank_sequence_lem (half_of y) c (rank_of (half_of y) t) half (rank_below (half_of y) half t))
      ∙ sample_back (half_of y) half t

  byte_is : (i : ℕ) → i < 2 → get_or sound_block (8 + (word_number (half_of y) t * 2 + i)) 0 ≡ get_or (bytes_of (stored_word l c t)) i 0
  unfolding payload word_bytes
  byte_is i hi =
      let a : ℕ = audio_of (half_of y) t in
      let w : ℕ = word_number (half_of y) t in
      ap (λ (b : List ℕ). get_or b (8 + (w * 2 + i)) 0) (frame_entry y l (dif_of c) q Audio a dif_below sequence_in (audio_below (half_of y) half t))
      ∙ audio_byte y _ _ (samples_of l.count l.sound (audio_at (half_of y) (dif_of c) q)) q a (id_of (dif_of c) q Audio a) w i (word_below (half_of y) half t t_below) hi
      ∙ ap₂ (λ (x z : ℕ). get_or (bytes_of (sample_word (samples_of l.count l.sound x) z)) i 0) channel_is sample_is

  -- "high byte first"
  pub frame_high : get_or sound_block (byte_of (half_of y) t) 0 ≡ stored_word l c t / 256
  frame_high = let e : byte_of (half_of y) t ≡ 8 + (word_number (half_of y) t * 2 + 0) = omega arith in ap (λ (i : ℕ). get_or sound_block i 0) e ∙ byte_is 0 (omega arith)

  pub frame_low : get_or sound_block (byte_of (half_of y) t + 1) 0 ≡ stored_word l c t % 256
  frame_low = let e : byte_of (half_of y) t + 1 ≡ 8 + (word_number (half_of y) t * 2 + 1) = omega arith in ap (λ (i : ℕ). get_or sound_block i 0) e ∙ byte_is 1 (omega arith)

  pub frame_word : word_at sound_block (byte_of (half_of y) t) ≡ stored_word l c t
  frame_word = ap₂ (λ (x z : ℕ). x * 256 + z) frame_high frame_low ∙ bytes_word (stored_word l c t)

-- what a word says that was stored: the number that was given, or silence from the count on
module _ (l : Contents) (c t : ℕ) (c1 : 0 < c) (c8 : c < 9) (len : length l.sound ≡ 8 * l.count) (all : all_in_range l.sound ≡ true) (ht : t < l.count) where
  abbrev given : ℤ
  given = get_or l.sound ((c - 1) * l.count + t) (pos 0)

  pub given_in : in_range given ≡ true
  given_in = all_in l.sound ((c - 1) * l.count + t) all (omega (arith, samples_end l.count l.sound c c1 c8 len))

  pub stored_word_lem : stored_word l c t ≡ word_for given
  unfolding sample_word samples_of
  stored_word_lem =
      pick_true _ _ (lt-ltb t _ (omega (arith, samples_length l.count l.sound c c1 c8 len)))
      ∙ ap word_for (get_or-take l.count (drop ((c - 1) * l.count) l.sound) t (pos 0) ht ∙ get_or-drop ((c - 1) * l.count) l.sound t (pos 0))

  pub stored_given : number_of (sample_of (stored_word l c t)) ≡ back_of given
  stored_given = ap (λ (w : ℕ). number_of (sample_of w)) stored_word_lem ∙ number_again given given_in

most_taken : (n : ℕ) (xs : List ℤ) → length (take n xs) ≤ n
most_taken n xs = omega (arith, length-take n xs)

pub stored_tail : (l : Contents) (c t : ℕ) → l.count ≤ t → stored_word l c t ≡ 0
unfolding sample_word samples_of
stored_tail l c t ht = pick_false _ _ (le-ltb t _ (le_trans (most_taken l.count _) ht))

-- ---- carried_bytes: a slot holds its macroblock's 77 bytes, or FFh

module _ (y : System) (l : Contents) (h q v : ℕ) (hh : h < 4) (hq : q < sequences_of y) (hv : v < 135) where
  abbrev pub picture_bytes : List ℕ
  picture_bytes = drop 3 (block_at y (written_frame y l) h q (place_in Video v))

  pub frame_macroblock : (b : ℕ) → carried_in y (slot h q v) ≡ Some b → 77 * b + 77 ≤ length l.macroblocks
      → picture_bytes ≡ take 77 (drop (77 * b) l.macroblocks)
  unfolding payload video_bytes carried_bytes
  frame_macroblock b e room =
      frame_payload y l h q Video v hh hq hv ∙ ap (carried_bytes l.macroblocks) e ∙ tab_part 0 l.macroblocks (77 * b) 77 room

  pub frame_empty : carried_in y (slot h q v) ≡ None → picture_bytes ≡ replicate 77 0xFF
  unfolding payload video_bytes carried_bytes
  frame_empty e = frame_payload y l h q Video v hh hq hv ∙ ap (carried_bytes l.macroblocks) e

-- ---- the packs that were written, where a reader looks for them

module _ (y : System) (l : Contents) (h q : ℕ) (hh : h < 4) (hq : q < sequences_of y) where
  abbrev pub header_block : List ℕ
  header_block = block_at y (written_frame y l) h q (place_in Header 0)

  header_is : header_block ≡ id_bytes (id_of h q Header 0) ++ header_bytes y
  unfolding payload
  header_is = frame_entry y l h q Header 0 hh hq (omega arith)

  pub frame_dsf : dsf_ok y header_block ≡ true
  unfolding id_bytes
  frame_dsf = ap (dsf_ok y) header_is ∙ dsf_written (id_bytes (id_of h q Header 0)) refl y y ∙ eq-eqb (rate_of y) (rate_of y) refl

  pub frame_flags : (k : ℕ) → 0 < k → k < 4 → flagged k header_block ≡ false
  unfolding id_bytes
  frame_flags k k1 k4 = ap (flagged k) header_is ∙ flags_written (id_bytes (id_of h q Header 0)) refl y k k1 k4

  -- SSYB j of SC(k)
  pub frame_subcode : (k j : ℕ) → k < 2 → j < 6
      → ssyb_pack (block_at y (written_frame y l) h q (place_in Subcode k)) j ≡ subcode_pack (kind_of (is_first y q) (6 * k + j)) (time_pack l.time_code) (group_pack l.binary_group)
  unfolding payload id_bytes
  frame_subcode k j hk hj =
      ap (λ (b : List ℕ). ssyb_pack b j) (frame_entry y l h q Subcode k hh hq hk)
      ∙ subcode_pack_lem (is_first y q) (subcode_of l.time_code l.binary_group) k (id_bytes (id_of h q Subcode k)) j refl hj

  pub frame_vs : vaux_in (block_at y (written_frame y l) h q (place_in Vaux (vaux_block (vs_at q)))) (vs_at q) ≡ vs_pack y
  unfolding payload id_bytes
  frame_vs =
      let k : vaux_block (vs_at q) < 3 = omega (arith, vs_below q) in
      let e : 15 * (vs_at q / 15) + vs_at q % 15 ≡ vs_at q = omega arith in
      ap (λ (b : List ℕ). vaux_in b (vs_at q)) (frame_entry y l h q Vaux (vaux_block (vs_at q)) hh hq k)
      ∙ subst (λ (i : ℕ). vaux_in (id_bytes (id_of h q Vaux (vs_at q / 15)) ++ vaux_bytes (vs_pack y) vsc_pack q (vs_at q / 15)) i ≡ vaux_pack (vs_pack y) vsc_pack q i) e
      (vaux_pack_lem (vs_pack y) vsc_pack q (vs_at q / 15) (id_bytes (id_of h q Vaux (vs_at q / 15))) (vs_at q % 15) refl (omega arith))
      ∙ pair_source (vs_at q) (vs_pack y) vsc_pack

-- the AS of the sequence of rank r of audio channel c's half says the count and the channel's mode
pub frame_as : (y : System) (l : Contents) (c r q : ℕ) → 0 < c → c < 9 → r < half_of y → q ≡ half_of y * half_at c + r
    → aaux_in (block_at y (written_frame y l) (dif_of c) q (place_in Audio (as_at q))) ≡ as_pack y l.count c
unfolding payload audio_bytes id_bytes
frame_as y l c r q c1 c8 hr eq =
    let half : Half (half_of y) = half_cases y in
    let hq : q < sequences_of y = omega (arith, eq, half_twice y, sequence_below (half_of y) c r half hr) in
    let ec : audio_at (half_of y) (dif_of c) q ≡ c = ap (audio_at (half_of y) (dif_of c)) eq ∙ audio_sequence (half_of y) c r half hr c1 in
    ap aaux_in (frame_entry y l (dif_of c) q Audio (as_at q) (omega arith) hq (omega (arith, as_below q)))
    ∙ pair_source (as_at q) (as_pack y l.count (audio_at (half_of y) (dif_of c) q)) asc_pack
    ∙ ap (as_pack y l.count) ec
