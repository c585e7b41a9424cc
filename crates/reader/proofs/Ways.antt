-- The ways out of the strict reads. Assumes nothing.
use Rattle.std.specs.Prelude.{Option, Some, None, IsSome}
use mathlib.Core.Path.{◌≡◌, refl, sym, ap, ◌∙◌}
use mathlib.Core.Bool.{Bool, true, false, ◌&&◌}
use mathlib.Core.List.{List, ◌++◌}
use Prim.Native.Nat.{ℕ, ◌+◌, ◌*◌, ◌-◌, ◌≤◌, ◌<◌}
use native.Mathlib.Omega.{arith}
use lib.Dec.{eqb, ltb, leb}
use lib.IntN.{ℤ}
use lib.ListN.{length, take, drop, replicate}
use lib.Seq.{length-take-le}
use borrow.Author.Tests.{eq-eqb, le-leb, ltb-true}
use Rattle.base.specs.Pick.{pick}
use Rattle.base.specs.Run.{tab}
use Rattle.base.proofs.Cases.{by_bool}
use Rattle.base.proofs.Parts.{range_part}
use Rattle.base.proofs.Picks.{pick_true, pick_false, both_held, both_hold}
use Rattle.base.proofs.Runs.{tab_same, tab_constant}
use Rattle.paper.specs.declared.System.{System}
use Rattle.paper.specs.declared.Cause.{Cause}
use Rattle.paper.specs.Causes.{cause_number}
use Rattle.paper.specs.declared.Section.TheVariants.{Video}
use Rattle.paper.specs.declared.BlockNumber.{BlockNumber}
use Rattle.paper.specs.declared.Place.{Place}
use Rattle.paper.specs.declared.Part.{Part}
use Rattle.paper.specs.declared.Pack.{Pack}
use Rattle.paper.specs.declared.Slot.{Slot}
use Rattle.paper.specs.declared.AudioAnswer.{AudioAnswer}
use Rattle.paper.specs.declared.TimeAnswer.{TimeAnswer}
use Rattle.rules_format.specs.Systems.{sequences_of, positions_of, macroblocks_of, system_of}
use Rattle.rules_format.specs.Places.{place_in, place_for}
use Rattle.rules_format.specs.Blocks.{no_part}
use Rattle.rules_format.specs.Samples.{lost, number_of}
use Rattle.rules_picture.specs.Picture.{carried_in, carrier_of, carried_by}
use Rattle.rules_format.specs.Reading.{read_sample}
use Rattle.rules_reads.specs.Audio.{first_as, count_for, is_marked, heard_sample, is_audio, audio_number, AudioRead}
use Rattle.rules_reads.specs.Macroblock.{macroblock_number, slot_start, MacroblockNumbered, MacroblockRead, MacroblockLies}
use Rattle.rules_reads.specs.Time.{time_first, group_first, settled, time_number, time_refused, TimeRead}
use Rattle.rules_packs.specs.Packs.{four_bytes}
use Rattle.rules_packs.specs.Aaux.{count_in, mode_in, is_mark}
use Rattle.rules_format.proofs.Systems.{sequences_le}
use Rattle.rules_format.proofs.Places.{place_for_lem}
use Rattle.rules_format.proofs.Blocks.{before_channel}
use Rattle.rules_reads.proofs.Check.{rows_mean}
use Rattle.rules_format.proofs.Reading.{salvaged_named}
use Rattle.rules_reads.proofs.Reading.{sound_clean}
use Rattle.rules_reads.proofs.Audio.{heard_marked, heard_recorded, audio_zero, audio_stopped, audio_count, audio_done}
use Rattle.rules_reads.proofs.Macroblock.{macroblock_zero, macroblock_lies_stopped, macroblock_lies_found, macroblock_lies_within}
use Rattle.rules_picture.proofs.Picture.{carrier_carries, carried_inside}
use Rattle.rules_reads.proofs.Time.{time_stopped, time_done}
use Rattle.layout.specs.Asked.{FrameKnown}
use Rattle.layout.proofs.Saying.{never_zero}
use Rattle.rescue.specs.Taken.{held_sample, samples_fit, samples_left}
use Rattle.reader.specs.Asked.{SlotAsked, SlotStart}

-- ---- slot_start

module _ (y : System) (h q : ℕ) (v : BlockNumber) (asked : SlotAsked y h q v) (p : Place) (ep : p ≡ place_for Video v) where
  slot_place : p.0 ≡ place_in Video v.0
  slot_place = ap (λ (x : Place). x.0) (ep ∙ place_for_lem Video v asked.video)

  module _ (s : ℕ) (es : s ≡ (sequences_of y * h + q) * 12000) where
    pub slot_small : s + p.0 * 80 + 80 ≤ 48000 * sequences_of y
    slot_small = omega (arith, es, before_channel (sequences_of y) h asked.channel, asked.sequence, asked.video, slot_place)

    pub start_is : SlotStart y h q v (s + p.0 * 80 + 3)
    start_is = record { is = omega (arith, es, slot_place); within = omega (arith, slot_small); small = omega (arith, slot_small, sequences_le y) }

-- ---- macroblock_at and macroblock

module _ (k : ℕ) (frame : List ℕ) (b : ℕ) where
  pub lies_refused : (cause : Cause) → MacroblockNumbered k frame b (cause_number cause) → (number : ℕ) → number ≡ cause_number cause → (t : Part) → t ≡ no_part number → MacroblockLies k frame b t
  lies_refused cause er number en t et =
      macroblock_lies_stopped k frame b (cause_number cause) er.answer (never_zero cause) t (et ∙ ap no_part en)

  module _ (y : System) (is : FrameKnown k (length frame) y) (er : MacroblockNumbered k frame b 0) where
    zero : macroblock_number k frame b ≡ 0
    zero = sym er.answer

    holds : (length frame ≡ 48000 * sequences_of y) × (b < macroblocks_of y)
    holds = let w = macroblock_zero k frame b y is.known zero in (w.0, w.1)

    pub lies_somewhere : IsSome (carrier_of y b)
    lies_somewhere = somewhere (carrier_of y b) (carrier_carries y b holds.1)
      where
        somewhere : (c : Option Slot) → carried_by (carried_in y) c ≡ Some b → IsSome c
        somewhere (Some x) m = refl
        somewhere None m = let q : ◌≡◌ {A = ℕ} 0 1 = cc in absurd (omega arith)

    module _ (c : Option Slot) (ec : c ≡ carrier_of y b) (slot : Slot) (f : c ≡ Some slot) where
      lies : carrier_of y b ≡ Some slot
      lies = sym ec ∙ f

      carries : carried_in y slot ≡ Some b
      carries = rw lies at (carrier_carries y b holds.1)

      pub slot_asked : SlotAsked y slot.channel slot.sequence slot.video
      slot_asked = let i = carried_inside y slot b carries in record { channel = i.channel; sequence = i.sequence; video = i.video }

      pub lies_found : (at : ℕ) → SlotStart y slot.channel slot.sequence slot.video at → MacroblockLies k frame b (record { number = 0; start = at; length = 77 })
      unfolding slot_start
      lies_found at st = rw st.is (macroblock_lies_found k frame b y is.known zero slot lies)

module _ (k : ℕ) (frame : List ℕ) (b : ℕ) (r : Part) (m : MacroblockLies k frame b r) where
  pub part_ends : r.start + r.length ≤ length frame
  part_ends = macroblock_lies_within k frame b m

  pub part_read : MacroblockRead k frame b (take (r.start + r.length - r.start) (drop r.start frame))
  part_read = record { answer = range_part r.start r.length frame ∙ m.bytes }

-- ---- read_time

module _ (k : ℕ) (frame : List ℕ) where
  pub time_stops : (cause : Cause) → cause_number cause ≡ time_number k frame → (r : TimeAnswer) → r ≡ time_refused (cause_number cause) → TimeRead k frame r
  time_stops cause e r = time_stopped k frame (cause_number cause) r e (never_zero cause)

  pub time_answered : (y : System) → FrameKnown k (length frame) y → 0 ≡ time_number k frame → (first time group : Pack) → first ≡ time_first y frame → time ≡ settled y first
      → group ≡ group_first y frame → (a b : List ℕ) → a ≡ four_bytes time → b ≡ four_bytes group → TimeRead k frame (record { number = 0; time = a; group = b })
  time_answered y is en first time group ef et eg a b ea eb =
      time_done k frame y is.known (sym en) _ (rw (ea, eb, et, ef, eg) refl)

-- a prefix that is lent has its length
pub prefix_lent : (n : ℕ) (list : List ℤ) → n ≤ length list → n ≡ length (take n list)
prefix_lent n list h = sym (length-take-le n list h)

-- ---- hear

module _ (y : System) (frame : List ℕ) (c : ℕ) (marked : Bool) (list list' : List ℤ) where
  pub hears_lost : marked ≡ true → list' ≡ replicate (length list) lost → list' ≡ pick marked (replicate (length list) lost) (samples_left y frame c list)
  hears_lost e el = el ∙ sym (pick_true _ _ e)

  pub hears_words : marked ≡ false → list' ≡ samples_left y frame c list → list' ≡ pick marked (replicate (length list) lost) (samples_left y frame c list)
  hears_words e el = el ∙ sym (pick_false _ _ e)

-- ---- read_audio: `first` is the first AS, count and mode what it says

module _ (k : ℕ) (frame : List ℕ) (c : ℕ) (list : List ℤ) where
  pub audio_stops : (cause : Cause) → cause_number cause ≡ audio_number k frame c (length list) → (r : AudioAnswer) → r ≡ record { number = cause_number cause; count = 0 } → AudioRead k frame c list r list
  audio_stops cause e r = audio_stopped k frame c list (cause_number cause) r e (never_zero cause)

  module _ (y : System) (is : FrameKnown k (length frame) y) (en : 0 ≡ audio_number k frame c (length list)) (first : Pack) (ef : first ≡ first_as y frame c)
      (count : ℕ) (ec : count ≡ count_in first) where
    known : system_of k ≡ Some y
    known = is.known

    none : audio_number k frame c (length list) ≡ 0
    none = sym en

    count_is : count ≡ count_for y frame c
    count_is = ec ∙ ap count_in ef

    -- the count is within the list
    pub audio_ends : count ≤ length list
    audio_ends = omega (arith, count_is, audio_count k frame c list y known none)

    audio_lent : count ≡ length (take count list)
    audio_lent = prefix_lent count list audio_ends

    -- what is salvaged of a frame without faults is what is read
    as_read : (t : ℕ) → held_sample y frame c t ≡ number_of (read_sample y frame c t)
    as_read t =
        let zeros = audio_zero k frame c (length list) y known none in
        let two = both_held (ltb 0 c) (ltb c 9) zeros.1 in
        let clean = (rows_mean y frame zeros.3).0 in
        ap number_of (salvaged_named y frame c t (sound_clean y frame c t clean (ltb-true _ _ two.0) (ltb-true _ _ two.1)))

    module _ (mode : ℕ) (em : mode ≡ mode_in first) (marked : Bool) (ek : marked ≡ is_mark mode) where
      marked_is : marked ≡ is_marked y frame c
      marked_is = ek ∙ ap is_mark (em ∙ ap mode_in ef)

      heard_is : (part : List ℤ) → part ≡ pick marked (replicate (length (take count list)) lost) (samples_left y frame c (take count list))
          → part ≡ tab (λ (t : ℕ). number_of (heard_sample y frame c t)) (length (take count list))
      unfolding samples_left samples_fit
      heard_is part ep =
          let m = length (take count list) in
          let zeros = audio_zero k frame c (length list) y known none in
          let room : m ≤ positions_of y = omega (arith, audio_lent, audio_ends, zeros.2) in
          let fits : (eqb (length frame) (48000 * sequences_of y) && (is_audio c && leb m (positions_of y))) ≡ true =
          both_hold (eq-eqb _ _ zeros.0) (both_hold zeros.1 (le-leb _ _ room)) in
          by_bool marked
          (λ yes.
          ep ∙ pick_true _ _ yes ∙ sym (tab_constant lost m)
          ∙ tab_same _ _ m (λ t _. sym (ap number_of (heard_marked y frame c t (sym marked_is ∙ yes)))))
          (λ no.
          ep ∙ pick_false _ _ no ∙ pick_true _ _ fits
          ∙ tab_same _ _ m (λ t _. as_read t ∙ sym (ap number_of (heard_recorded y frame c t (sym marked_is ∙ no)))))

      pub audio_heard : (part : List ℤ) → part ≡ pick marked (replicate (length (take count list)) lost) (samples_left y frame c (take count list))
          → AudioRead k frame c list (record { number = 0; count = count }) (part ++ drop count list)
      audio_heard part ep =
          let same : length (take count list) ≡ count_for y frame c = sym audio_lent ∙ count_is in
          audio_done k frame c list y known none (record { number = 0; count = count }) (part ++ drop count list) (rw count_is refl)
          (rw (heard_is part ep, same, count_is) refl)
