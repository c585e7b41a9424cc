-- What a sequence and an audio channel add to the samples and the faults taken before; audio channels count from 0. Assumes nothing.
use mathlib.Core.Path.{◌≡◌, refl, sym, ap, ap₂, ◌∙◌}
use mathlib.Core.Bool.{Bool, true, false, not, ◌&&◌}
use mathlib.Core.List.{List}
use Prim.Native.Nat.{ℕ, ◌+◌, ◌*◌, ◌-◌, ◌/◌, ◌%◌, ◌≤◌, ◌<◌}
use native.Mathlib.Nat.{mul-le-mul_left}
use native.Mathlib.Omega.{arith}
use lib.Dec.{eqb, ltb}
use lib.IntN.{ℤ}
use lib.ListN.{length, take, drop}
use borrow.Author.Tests.{eqb-true, leb-true, ltb-true, not-true, not-false}
use Rattle.base.specs.Run.{run, tab}
use Rattle.base.proofs.Parts.{range_part}
use Rattle.base.proofs.Picks.{pick_true, pick_false, both_held}
use Rattle.paper.specs.declared.System.{System}
use Rattle.paper.specs.declared.Section.TheVariants.{Audio}
use Rattle.rules_format.specs.Systems.{sequences_of, half_of, positions_of}
use Rattle.rules_format.specs.Blocks.{sequence_at}
use Rattle.rules_format.specs.Sound.{dif_of, half_at, rank_of, sequence_of, audio_of, sound_place, byte_of, rank_at}
use Rattle.rules_format.specs.Faults.{names}
use Rattle.rules_format.specs.Reading.{read_sample, salvaged_sample}
use Rattle.rules_format.proofs.Systems.{sequences_le, half_cases, half_twice}
use Rattle.rules_format.proofs.Places.{place_in_below}
use Rattle.rules_format.proofs.Blocks.{block_in_sequence, sequence_length}
use Rattle.rules_format.proofs.Sound.{half_le, audio_below, rank_sequence_lem, sequence_below}
use Rattle.rules_surveys.proofs.Halves.{half_start, rank_le}
use Rattle.fault_list.specs.declared.list.FaultList.{FaultList}
use Rattle.fault_list.specs.Asked.{next_faults}
use Rattle.fault_list.specs.Listed.{NotedIn}
use Rattle.fault_list.proofs.Next.{next_inside}
use Rattle.sequence_samples.specs.Taken.{held_word, held_block, held_part, Between, blocks_taken}
use Rattle.sequence_samples.proofs.Between.{between_none, between_next, between_same, between_all}
use Rattle.sequence_samples.proofs.Ways.{nine_taken}
use Rattle.rescue.specs.Taken.{held_sample, samples_fit, samples_left, rank_sequence, rank_faults, half_faults}
use Rattle.rescue.specs.Asked.{RankAsked, HalfAsked, HalfSalvaged}

-- ---- a sequence's sample is the frame's

held_sample_lem : (y : System) (frame : List ℕ) (c t : ℕ)
    → held_part (half_of y) (sequence_at y frame (dif_of c) (sequence_of (half_of y) c t)) (dif_of c) (sequence_of (half_of y) c t) t ≡ held_sample y frame c t
unfolding held_part held_block salvaged_sample read_sample
held_sample_lem y frame c t =
    let s = half_of y in
    ap (λ (b : List ℕ). held_word (names b (dif_of c) (sequence_of s c t) (sound_place s t)) b (byte_of s t))
    (block_in_sequence y frame (dif_of c) (sequence_of s c t) (sound_place s t) (place_in_below Audio (audio_of s t) (audio_below s (half_cases y) t)))

-- ---- rank_part and rank_sequence: m is what `half` answers

module _ (y : System) (i r m : ℕ) (em : m ≡ half_of y) where
  pub q_is : m * (i % 2) + r ≡ rank_sequence y i r
  q_is =
      let e : i % 2 ≡ half_at (i + 1) = omega arith in
      ap₂ (λ (a b : ℕ). a * b + r) em e

  q_below : r < half_of y → rank_sequence y i r < sequences_of y
  q_below l = omega (arith, sequence_below (half_of y) (i + 1) r (half_cases y) l, half_twice y)

  pub q_small : r < half_of y → m * (i % 2) + r ≤ 12
  q_small l = omega (arith, q_is, q_below l, sequences_le y)

  start_is : m * i + r ≡ sequences_of y * dif_of (i + 1) + rank_sequence y i r
  start_is = omega (arith, ap (λ (a : ℕ). a * i) em, half_start y i)

  module _ (frame : List ℕ) (asked : RankAsked y i r) where
    before_rank : m * i ≤ m * 7
    before_rank = mul-le-mul_left m (omega (arith, asked.channel))

    pub rank_fits : length frame ≡ 48000 * sequences_of y → (m * i + r) * 12000 + 12000 ≤ length frame
    rank_fits w = omega (arith, em, w, asked.rank, half_twice y, before_rank)

    pub rank_small : m * i + r ≤ 48
    rank_small = omega (arith, em, before_rank, asked.rank, half_le (half_of y) (half_cases y))

    pub rank_cut : take ((m * i + r) * 12000 + 12000 - (m * i + r) * 12000) (drop ((m * i + r) * 12000) frame) ≡ sequence_at y frame (dif_of (i + 1)) (rank_sequence y i r)
    unfolding sequence_at
    rank_cut = range_part ((m * i + r) * 12000) 12000 frame ∙ ap (λ (a : ℕ). take 12000 (drop (a * 12000) frame)) start_is

-- ---- take_rank and survey_rank

module _ (frame : List ℕ) (y : System) (i r : ℕ) (asked : RankAsked y i r) (w : length frame ≡ 48000 * sequences_of y) (part : List ℕ) (ep : part ≡ sequence_at y frame (dif_of (i + 1)) (rank_sequence y i r)) where
  half_is : i / 2 ≡ dif_of (i + 1)
  half_is = omega arith

  h_below : dif_of (i + 1) < 4
  h_below = omega (arith, asked.channel)

  rank_long : length (sequence_at y frame (dif_of (i + 1)) (rank_sequence y i r)) ≡ 12000
  rank_long = sequence_length y frame (dif_of (i + 1)) (rank_sequence y i r) w h_below (q_below y i r (half_of y) refl asked.rank)

  module _ (h q : ℕ) (eh : h ≡ i / 2) (eq : q ≡ rank_sequence y i r) where
    h_is : h ≡ dif_of (i + 1)
    h_is = eh ∙ half_is

    pub rank_taken : (before now : List ℤ) → length before ≤ positions_of y
        → Between (half_of y) (9 * rank_at (half_of y) q) (9 * rank_at (half_of y) q + blocks_taken y (length part) (length before)) (held_part (half_of y) part h q) before now
        → Between (half_of y) (9 * r) (9 * r + 9) (held_sample y frame (i + 1)) before now
    rank_taken before now room b =
        let p = rw (nine_taken y (length part) (length before) (ap length ep ∙ rank_long) room) at b in
        let s = half_of y in
        let er : rank_at s (rank_sequence y i r) ≡ r = rank_sequence_lem s (i + 1) r (half_cases y) asked.rank in
        let p' : Between s (9 * r) (9 * r + 9) (held_part s (sequence_at y frame (dif_of (i + 1)) (rank_sequence y i r)) (dif_of (i + 1)) (rank_sequence y i r)) before now =
        rw er at (rw (ep, h_is, eq) at p) in
        between_same s (9 * r) (9 * r + 9) _ _ before now (λ t lo hi.
        let e : rank_of s t ≡ r = omega (arith, audio_below s (half_cases y) t) in
        ap (λ (j : ℕ). held_part s (sequence_at y frame (dif_of (i + 1)) (rank_sequence y i j)) (dif_of (i + 1)) (rank_sequence y i j) t) (sym e)
        ∙ held_sample_lem y frame (i + 1) t) p'

    pub rank_noted : (list list' : FaultList) → list.total ≤ 7200 → NotedIn list (next_faults y h q part list.total) list' → NotedIn list (rank_faults y frame i r) list'
    rank_noted list list' l n =
        let d = dif_of (i + 1) in
        let inside = next_inside y d (rank_sequence y i r) (sequence_at y frame d (rank_sequence y i r)) list.total h_below (q_below y i r (half_of y) refl asked.rank) rank_long (omega arith) in
        rw inside at (rw (ep, h_is, eq) at n)

-- ---- take_half and salvage_half

module _ (frame : List ℕ) (y : System) (i t r m : ℕ) (asked : HalfAsked i t) (em : m ≡ half_of y) (l : r < m) where
  pub rank_asked : RankAsked y i r
  rank_asked = record { channel = asked.channel; rank = omega (arith, em) }

  pub rank_few : (list list' : FaultList) → t ≡ list.total → NotedIn list (run (rank_faults y frame i) r) list' → list'.total ≤ 7200
  rank_few list list' et n = omega (arith, n.noted.total, asked.few, et, rank_le y frame i r, em, half_le (half_of y) (half_cases y))

module _ (s : ℕ) (f : ℕ → ℤ) where
  pub half_none : (l : List ℤ) → Between s 0 (9 * 0) f l l
  half_none l = between_none s 0 f l

  pub half_turn : (r : ℕ) (before mid now : List ℤ) → Between s 0 (9 * r) f before mid → Between s (9 * r) (9 * r + 9) f mid now → Between s 0 (9 * (r + 1)) f before now
  half_turn r before mid now p n =
      let e : 9 * (r + 1) ≡ 9 * r + 9 = omega arith in
      rw e (between_next s 0 (9 * r) (9 * r + 9) f before mid now (omega arith) (omega arith) p n)

module _ (frame : List ℕ) (y : System) (i r m : ℕ) (em : m ≡ half_of y) (le : r ≤ m) (ge : m ≤ r) (before now : List ℤ)
    (p : Between (half_of y) 0 (9 * r) (held_sample y frame (i + 1)) before now) where
  r_is : r ≡ half_of y
  r_is = omega arith

  pub half_taken : Between (half_of y) 0 (9 * half_of y) (held_sample y frame (i + 1)) before now
  half_taken = rw r_is at p

  pub half_salvaged : (list list' : FaultList) → NotedIn list (run (rank_faults y frame i) r) list' → HalfSalvaged y frame i before now list list'
  unfolding half_faults
  half_salvaged list list' n = record { sound = half_taken; noted = rw r_is at n }

-- ---- samples_of: b is what `samples_fit` answers

module _ (y : System) (frame : List ℕ) (c : ℕ) (before : List ℤ) (b : Bool) (eb : b ≡ samples_fit y (length frame) c (length before)) where
  pub left_alone : not b ≡ true → before ≡ samples_left y frame c before
  unfolding samples_left
  left_alone d = sym (pick_false _ _ (sym eb ∙ not-true _ d))

  module _ (fits : not b ≡ false) where
    fit : samples_fit y (length frame) c (length before) ≡ true
    fit = sym eb ∙ not-false _ fits

    whole : length frame ≡ 48000 * sequences_of y
    unfolding samples_fit
    whole = eqb-true _ _ (both_held (eqb (length frame) (48000 * sequences_of y)) _ fit).0

    audio : (0 < c) × (c < 9)
    unfolding samples_fit
    audio =
        let w = both_held (ltb 0 c) (ltb c 9) (both_held (ltb 0 c && ltb c 9) _ (both_held (eqb (length frame) (48000 * sequences_of y)) _ fit).1).0 in
        (ltb-true _ _ w.0, ltb-true _ _ w.1)

    pub audio_some : 0 < c
    audio_some = audio.0

    pub room_fits : length before ≤ positions_of y
    unfolding samples_fit
    room_fits = leb-true _ _ (both_held (ltb 0 c && ltb c 9) _ (both_held (eqb (length frame) (48000 * sequences_of y)) _ fit).1).1

    pub frame_whole : length frame ≡ 48000 * sequences_of y
    frame_whole = whole

    pub half_asked : HalfAsked (c - 1) 0
    half_asked = record { channel = omega (arith, audio.0, audio.1); few = omega arith }

    pub samples_left_lem : (now : List ℤ) → Between (half_of y) 0 (9 * half_of y) (held_sample y frame (c - 1 + 1)) before now → now ≡ samples_left y frame c before
    unfolding samples_left
    samples_left_lem now p =
        let e : c - 1 + 1 ≡ c = omega (arith, audio.0) in
        between_all (half_of y) _ before now (half_cases y) p ∙ ap (λ (j : ℕ). tab (held_sample y frame j) (length before)) e ∙ sym (pick_true _ _ fit)
