-- What was written reads back: a written frame passes the frame check, and each read finds what the writer was given. Assumes nothing.
use Rattle.std.specs.Prelude.{Some}
use mathlib.Core.Path.{◌≡◌, refl, sym, ap, ◌∙◌, subst}
use mathlib.Core.Bool.{true, false, not}
use mathlib.Core.List.{List, []}
use Prim.Native.Nat.{ℕ, ◌+◌, ◌*◌, ◌/◌, ◌%◌, ◌≤◌, ◌<◌}
use native.Mathlib.Omega.{arith}
use lib.ListN.{length, take, drop}
use borrow.Author.Tests.{eq-eqb, ne_eqb}
use Rattle.base.specs.Calls.{first_of}
use Rattle.base.proofs.Picks.{both_hold, pick_true}
use Rattle.paper.specs.declared.System.{System}
use Rattle.paper.specs.declared.Section.TheVariants.{Header, Subcode, Vaux, Audio}
use Rattle.paper.specs.declared.Pack.{Pack}
use Rattle.paper.specs.declared.Slot.{Slot}
use Rattle.paper.specs.declared.SubcodePack.{SubcodePack}
use Rattle.paper.specs.declared.SubcodePack.TheVariants.{TimeCode, BinaryGroup, NoPack}
use Rattle.rules_format.specs.Systems.{sequences_of, half_of, positions_of, is_count, system_of}
use Rattle.rules_format.specs.Places.{place_in}
use Rattle.rules_format.specs.Blocks.{sequence_at, block_in}
use Rattle.rules_packs.specs.TimeCode.{time_pack, group_pack, time_taken}
use Rattle.rules_packs.specs.Subcode.{is_first, kind_of, subcode_pack, ssyb_pack}
use Rattle.rules_packs.specs.Vaux.{vs_at, vaux_block, vaux_in, vs_ok}
use Rattle.rules_packs.specs.Aaux.{as_at, as_pack, as_ok, aaux_in, count_in, mode_in}
use Rattle.rules_packs.specs.Header.{dsf_ok, flagged}
use Rattle.rules_format.specs.Samples.{sample_of}
use Rattle.rules_format.specs.Sound.{dif_of}
use Rattle.rules_picture.specs.Picture.{carried_in}
use Rattle.rules_reads.specs.Check.{every_sequence, dsf_agrees, vs_agrees, unflagged, fault_in, check_rows, check_number}
use Rattle.rules_format.specs.Reading.{read_sample, salvaged_sample}
use Rattle.rules_reads.specs.Audio.{first_of_half, as_in, as_keeps, first_as, count_for, mode_for, is_marked, count_is, mode_is, as_agree, audio_rows}
use Rattle.rules_reads.specs.Macroblock.{picture_rows, slot_bytes}
use Rattle.rules_reads.specs.Time.{ssyb_in, time_first, group_first, settled, pack_agrees, subcode_agrees, time_rows}
use Rattle.promises.specs.Contents.{Contents}
use Rattle.rules_writes.specs.Write.{written_frame}
use Rattle.rules_format.proofs.Systems.{half_cases, sequences_some}
use Rattle.rules_packs.proofs.Packs.{taken_means, taken_ok, group_when}
use Rattle.rules_packs.proofs.Subcode.{first_when}
use Rattle.rules_packs.proofs.Vaux.{vs_written, vs_below}
use Rattle.rules_packs.proofs.Aaux.{as_written, as_count, as_own, as_below}
use Rattle.rules_format.proofs.Sound.{half_some}
use Rattle.rules_picture.proofs.Picture.{carried_inside}
use Rattle.rules_reads.proofs.Check.{section_block, from_when, every_when, fault_none, rows_0, check_0}
use Rattle.rules_format.proofs.Reading.{salvaged_named}
use Rattle.rules_reads.proofs.Audio.{audio_0}
use Rattle.rules_reads.proofs.Macroblock.{picture_0}
use Rattle.rules_reads.proofs.Time.{settled_set, same_when, subcode_when, time_0}
use Rattle.rules_writes.proofs.Written.{frame_length, sound_names, frame_word, frame_macroblock, frame_dsf, frame_flags, frame_subcode, frame_vs, frame_as}
use Rattle.rules_writes.proofs.Written.{frame_names, stored_word}
use Rattle.rules_surveys.specs.FaultLists.{frame_faults, channel_faults, sequence_faults, block_faults}
use Rattle.base.proofs.Runs.{run_none}
use Rattle.rules_format.specs.Faults.{fault_at}
use Rattle.rules_format.proofs.Blocks.{block_in_sequence}

-- ---- frame_faults: a written frame has none

frame_faultless : (y : System) (l : Contents) → frame_faults y (written_frame y l) ≡ []
unfolding frame_faults channel_faults sequence_faults block_faults
frame_faultless y l =
    run_none _ 4 (λ h hh.
    run_none _ (sequences_of y) (λ q hq.
    run_none _ 150 (λ p hp.
    pick_true _ _
    (eq-eqb _ 0
    (ap (λ (b : List ℕ). fault_at b h q p) (block_in_sequence y (written_frame y l) h q p hp) ∙ frame_names y l h q p hh hq hp)))))

module _ (y : System) (l : Contents) where
  f : List ℕ
  f = written_frame y l

  -- ---- check_frame

  faultless : fault_in y f ≡ 0
  unfolding f
  faultless = fault_none y (written_frame y l) (frame_faultless y l)

  dsf_agrees_lem : every_sequence y f (dsf_agrees y) ≡ true
  unfolding f
  dsf_agrees_lem = every_when y f (dsf_agrees y) (λ h q hh hq. ap (dsf_ok y) (section_block y f h q Header 0 (omega arith)) ∙ frame_dsf y l h q hh hq)

  pub flags_clear : (k : ℕ) → 0 < k → k < 4 → every_sequence y (written_frame y l) (unflagged k) ≡ true
  flags_clear k k1 k4 =
      every_when y (written_frame y l) (unflagged k) (λ h q hh hq.
      ap not (ap (flagged k) (section_block y (written_frame y l) h q Header 0 (omega arith)) ∙ frame_flags y l h q hh hq k k1 k4))

  vs_agrees_lem : every_sequence y f (vs_agrees y) ≡ true
  unfolding f
  vs_agrees_lem =
      every_when y f (vs_agrees y) (λ h q hh hq.
      let b = section_block y f h q Vaux (vaux_block (vs_at q)) (omega (arith, vs_below q)) in
      let v : vs_ok y (vaux_in (block_in (sequence_at y f h q) (place_in Vaux (vaux_block (vs_at q)))) (vs_at q)) ≡ true =
      ap (λ (x : List ℕ). vs_ok y (vaux_in x (vs_at q))) b ∙ ap (vs_ok y) (frame_vs y l h q hh hq) ∙ vs_written y in
      let t : flagged 2 (block_in (sequence_at y f h q) (place_in Header 0)) ≡ false =
      ap (flagged 2) (section_block y f h q Header 0 (omega arith)) ∙ frame_flags y l h q hh hq 2 (omega arith) (omega arith) in
      rw (t, v) refl)

  pub rows_written : first_of (check_rows y (written_frame y l)) ≡ 0
  unfolding f
  rows_written = rows_0 y (written_frame y l) faultless dsf_agrees_lem vs_agrees_lem

  -- a written frame passes
  pub check_written : (k : ℕ) → system_of k ≡ Some y → check_number k (written_frame y l) ≡ 0
  unfolding f
  check_written k known = check_0 k (written_frame y l) y known (frame_length y l) faultless dsf_agrees_lem vs_agrees_lem

  -- ---- read_audio, salvage

  module _ (c : ℕ) (c1 : 0 < c) (c8 : c < 9) where
    as_at_lem : (r : ℕ) → r < half_of y → as_in (first_of_half y c + r) (sequence_at y f (dif_of c) (first_of_half y c + r)) ≡ as_pack y l.count c
    unfolding f
    as_at_lem r hr =
        let q = first_of_half y c + r in
        ap aaux_in (section_block y f (dif_of c) q Audio (as_at q) (omega (arith, as_below q))) ∙ frame_as y l c r q c1 c8 hr refl

    first_written : first_as y f c ≡ as_pack y l.count c
    unfolding first_as
    first_written =
        let e : first_of_half y c + 0 ≡ first_of_half y c = omega arith in
        subst (λ (q : ℕ). as_in q (sequence_at y f (dif_of c) q) ≡ as_pack y l.count c) e (as_at_lem 0 (half_some _ (half_cases y)))

    pub count_written : is_count y l.count ≡ true → count_for y (written_frame y l) c ≡ l.count
    unfolding f
    count_written own = ap count_in first_written ∙ as_count y l.count c own

    -- our writer marks no channel
    pub recorded_written : is_marked y (written_frame y l) c ≡ false
    unfolding f
    recorded_written = ne_eqb (mode_for y (written_frame y l) c) 0xF (λ z. omega (arith, z, ap mode_in first_written, as_own y l.count c))

    agree_written : as_agree y f c ≡ true
    unfolding as_agree
    agree_written =
        both_hold
        (from_when y f (count_is (count_for y f c)) (dif_of c) (first_of_half y c) (half_of y) (λ r hr. eq-eqb _ _ (ap count_in (as_at_lem r hr ∙ sym first_written))))
        (from_when y f (mode_is (mode_for y f c)) (dif_of c) (first_of_half y c) (half_of y) (λ r hr. eq-eqb _ _ (ap mode_in (as_at_lem r hr ∙ sym first_written))))

    pub audio_written : is_count y l.count ≡ true → first_of (audio_rows y (written_frame y l) c) ≡ 0
    unfolding f
    audio_written own =
        sym (audio_0 y (written_frame y l) c (flags_clear 1 (omega arith) (omega arith))
        (from_when y (written_frame y l) (as_keeps y c) (dif_of c) (first_of_half y c) (half_of y) (λ r hr. ap (as_ok y c) (as_at_lem r hr) ∙ as_written y l.count c own))
        agree_written)

    module _ (t : ℕ) (ht : t < positions_of y) where
      pub sample_written : read_sample y (written_frame y l) c t ≡ sample_of (stored_word l c t)
      unfolding read_sample
      sample_written = ap sample_of (frame_word y l c t c1 c8 ht)

      pub salvaged_written : salvaged_sample y (written_frame y l) c t ≡ sample_of (stored_word l c t)
      salvaged_written = salvaged_named y (written_frame y l) c t (eq-eqb _ _ (sound_names y l c t c1 c8 ht)) ∙ sample_written

  -- ---- macroblock

  pub picture_written : first_of (picture_rows y (written_frame y l)) ≡ 0
  picture_written = sym (picture_0 y (written_frame y l) (flags_clear 2 (omega arith) (omega arith)))

  pub slot_written : (s : Slot) (b : ℕ) → carried_in y s ≡ Some b → 77 * b + 77 ≤ length l.macroblocks → slot_bytes y (written_frame y l) s ≡ take 77 (drop (77 * b) l.macroblocks)
  unfolding slot_bytes
  slot_written s b e room =
      let i = carried_inside y s b e in
      frame_macroblock y l s.channel s.sequence s.video.0 i.channel i.sequence i.video b e room

  -- ---- read_time

  ssyb_at : (h q k : ℕ) → h < 4 → q < sequences_of y → k < 12 → ssyb_in k (sequence_at y f h q) ≡ subcode_pack (kind_of (is_first y q) k) (time_pack l.time_code) (group_pack l.binary_group)
  unfolding f
  ssyb_at h q k hh hq hk =
      let e : 6 * (k / 6) + k % 6 ≡ k = omega arith in
      ap (λ (b : List ℕ). ssyb_pack b (k % 6)) (section_block y f h q Subcode (k / 6) (omega arith))
      ∙ frame_subcode y l h q hh hq (k / 6) (k % 6) (omega arith) (omega arith)
      ∙ ap (λ (x : ℕ). subcode_pack (kind_of (is_first y q) x) (time_pack l.time_code) (group_pack l.binary_group)) e

  -- sequence 0 is in the first half
  first_half : is_first y 0 ≡ true
  first_half = first_when y 0 (sequences_some y)

  pub time_written : time_first y (written_frame y l) ≡ time_pack l.time_code
  unfolding time_first f kind_of
  time_written = ssyb_at 0 0 3 (omega arith) (sequences_some y) (omega arith) ∙ rw first_half refl

  pub group_written : group_first y (written_frame y l) ≡ group_pack l.binary_group
  unfolding group_first f kind_of
  group_written = ssyb_at 0 0 4 (omega arith) (sequences_some y) (omega arith) ∙ rw first_half refl

  agrees : (kind : SubcodePack) (p : Pack) → p ≡ subcode_pack kind (time_pack l.time_code) (group_pack l.binary_group)
      → pack_agrees y (time_pack l.time_code) (group_pack l.binary_group) kind p ≡ true
  unfolding pack_agrees
  agrees TimeCode p e = same_when _ _ (ap (settled y) e)
  agrees BinaryGroup p e = same_when _ _ e
  agrees NoPack p e = refl

  pub clock_written : time_taken y (time_pack l.time_code) ≡ true → first_of (time_rows y (written_frame y l)) ≡ 0
  unfolding f
  clock_written taken =
      sym (time_0 y (written_frame y l) (flags_clear 3 (omega arith) (omega arith))
      (rw (time_written, group_written) (both_hold (taken_ok y (time_pack l.time_code) taken refl) (group_when (group_pack l.binary_group) refl)))
      (rw (time_written, group_written)
      (every_when y (written_frame y l) (subcode_agrees y (time_pack l.time_code) (group_pack l.binary_group)) (λ h q hh hq.
      subcode_when y (time_pack l.time_code) (group_pack l.binary_group) q (sequence_at y (written_frame y l) h q) (λ k hk. agrees (kind_of (is_first y q) k) _ (ssyb_at h q k hh hq hk))))))

  -- what is answered of the time code is what was given
  pub settled_written : time_taken y (time_pack l.time_code) ≡ true → settled y (time_first y (written_frame y l)) ≡ time_pack l.time_code
  settled_written taken = ap (settled y) time_written ∙ settled_set y (time_pack l.time_code) (taken_means y (time_pack l.time_code) taken).0
