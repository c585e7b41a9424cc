-- The turns of all loops are the replaced frame: each word that is put is that of a sample, and each sample is put. Assumes nothing.
use Rattle.std.specs.Prelude.{Option, Some, None}
use mathlib.Core.Path.{◌≡◌, refl, sym, ap, ap₂, ◌∙◌, subst}
use mathlib.Core.List.{List}
use Prim.Native.Nat.{ℕ, ◌+◌, ◌-◌, ◌*◌, ◌≤◌, ◌<◌}
use native.Mathlib.Nat.{mod-eq_of_lt, mul-le-mul_left}
use native.Mathlib.Omega.{arith}
use lib.IntN.{ℤ, pos}
use lib.ListN.{length, get_or}
use borrow.Author.Tests.{lt-ltb, le-ltb}
use Rattle.base.specs.Put.{put_at, turns}
use Rattle.base.proofs.Cases.{by_lt}
use Rattle.base.proofs.Picks.{pick_true, pick_false, pick_either}
use Rattle.base.proofs.Puts.{put_run, turns_keep, turns_do, turns_same}
use Rattle.paper.specs.declared.System.{System}
use Rattle.paper.specs.declared.Cause.{Cause}
use Rattle.paper.specs.Causes.{cause_number}
use Rattle.layout.specs.Asked.{FrameKnown}
use Rattle.layout.proofs.Saying.{never_zero}
use Rattle.rules_format.specs.Systems.{half_of, positions_of, system_of}
use Rattle.rules_format.specs.Samples.{word_for, bytes_of}
use Rattle.rules_format.specs.Sound.{rank_of, audio_of, word_number, rank_at, first_at, sample_at}
use Rattle.rules_replaces.specs.Replace.{word_start, put_sample, replaced, replace_number, Replaced, Takes}
use Rattle.rules_writes.specs.Written.{sample_word, word_bytes}
use Rattle.rules_format.proofs.Systems.{half_cases, positions_half, count_turns}
use Rattle.rules_format.proofs.Sound.{sample_back, rank_below, audio_below, word_below, rank_sample, audio_sample, word_sample, first_below}
use Rattle.rules_surveys.proofs.Halves.{half_start}
use Rattle.rules_replaces.proofs.Replace.{Long, Done, put_long, put_does, put_stays, put_keeps, replaced_one, taken_takes, takes_above, takes_below, takes_own, takes_few, replace_stopped, replace_done}
use Rattle.rules_writes.proofs.Written.{word_wide}
use Rattle.sample_words.specs.Words.{words_below}
use Rattle.sample_words.proofs.Ways.{sample_within}
use Rattle.replacer.specs.Asked.{FrameAsked}
use Rattle.replacer.specs.Turns.{block_words, words_at, rank_start, rank_turn}
use Rattle.replacer.proofs.Ways.{part_fits}

-- ---- the words of a block: those that are put are those of samples below the count, and stand where these do

module _ (y : System) (samples : List ℤ) (many : 315 * half_of y ≤ length samples) (r a : ℕ) (hr : r < half_of y) (ha : a < 9) where
  abbrev words_here : ℕ
  words_here = words_below samples (sample_at (half_of y) (rank_at (half_of y) r) a 35)

  rank_is : rank_at (half_of y) r ≡ r
  rank_is = mod-eq_of_lt hr

  all_words : sample_at (half_of y) r a 35 < length samples → words_here ≡ 36
  all_words l = pick_true 36 35 (rw rank_is (lt-ltb _ _ l))

  all_but_one : length samples ≤ sample_at (half_of y) r a 35 → words_here ≡ 35
  all_but_one g = pick_false 36 35 (rw rank_is (le-ltb _ _ g))

  word_within : (w : ℕ) → w < words_here → sample_at (half_of y) r a w < length samples
  word_within w h =
      let step : ℕ = 9 * half_of y in
      by_lt (sample_at (half_of y) r a 35) (length samples)
      (λ l.
      let before : step * w ≤ step * 35 = mul-le-mul_left step (omega (arith, all_words l)) in
      omega arith)
      (λ g.
      sample_within samples (first_at (half_of y) r a) step (sample_at (half_of y) r a w) w refl (first_below (half_of y) (half_cases y) r a hr ha) (omega (arith, many))
      (omega (arith, all_but_one g)))

  word_there : (w : ℕ) → w < 36 → sample_at (half_of y) r a w < length samples → w < words_here
  word_there w hw ht =
      let step : ℕ = 9 * half_of y in
      by_lt (sample_at (half_of y) r a 35) (length samples)
      (λ l. omega (arith, all_words l))
      (λ g.
      by_lt w 35
      (λ lw. omega (arith, all_but_one g))
      (λ gw.
      let after : step * 35 ≤ step * w = mul-le-mul_left step gw in
      absurd (omega arith)))

  word_bytes_lem : (w : ℕ) → sample_at (half_of y) r a w < length samples → word_bytes y samples r a w ≡ bytes_of (word_for (get_or samples (sample_at (half_of y) r a w) (pos 0)))
  unfolding word_bytes sample_word
  word_bytes_lem w h = rw rank_is (ap bytes_of (pick_true _ _ (lt-ltb _ _ h)))

  word_at : (i w : ℕ) → word_start y (i + 1) (sample_at (half_of y) r a w) ≡ rank_start y i r + words_at a + w * 2
  word_at i w =
      let half = half_cases y in
      rw (rank_sample (half_of y) half r a hr ha w, audio_sample (half_of y) half r a hr ha w, word_sample (half_of y) half r a hr ha w) (omega (arith, half_start y i))

-- ---- all loops, whatever their order: f is the frame before

module _ (y : System) (i : ℕ) (samples : List ℤ) (f : List ℕ) (asked : FrameAsked f y i samples) (few : length samples < positions_of y) where
  c1 : 0 < i + 1
  c1 = omega arith

  c8 : i + 1 < 9
  c8 = omega (arith, asked.below)

  abbrev Whole : List ℕ → Type 0
  Whole = Long y (i + 1) c1 c8 samples f asked.whole

  abbrev InPlace : ℕ → List ℕ → Type 0
  InPlace = Done y (i + 1) c1 c8 samples f asked.whole

  abbrev put : ℕ → List ℕ → List ℕ
  put = put_sample y (i + 1) samples

  position : (t : ℕ) → t < length samples → t < positions_of y
  position t ht = omega (arith, ht, few)

  put_whole : (t : ℕ) → t < length samples → (x : List ℕ) → Whole x → Whole (put t x)
  put_whole t ht = put_long y (i + 1) c1 c8 samples f asked.whole t (position t ht)

  -- block a of rank r at once, and sample by sample

  abbrev put_block : ℕ → ℕ → List ℕ → List ℕ
  put_block r a = put_at (rank_start y i r + words_at a) (block_words y samples r a)

  abbrev put_word : ℕ → ℕ → ℕ → List ℕ → List ℕ
  put_word r a w = put (sample_at (half_of y) r a w)

  module _ (r a : ℕ) (hr : r < half_of y) (ha : a < 9) where
    abbrev words : ℕ
    words = words_here y samples asked.turns r a hr ha

    within : (w : ℕ) → w < words → sample_at (half_of y) r a w < length samples
    within = word_within y samples asked.turns r a hr ha

    block_is : (x : List ℕ) → Whole x → put_block r a x ≡ turns (put_word r a) words x
    unfolding block_words put_sample
    block_is x long =
        let le : words ≤ 36 = pick_either (λ (n : ℕ). n ≤ 36) _ (omega arith) (omega arith) in
        put_run 2 (word_bytes y samples r a) (word_wide y samples r a) (rank_start y i r + words_at a) words x
        (omega (arith, le, part_fits y i r (half_of y) refl (rank_start y i r) refl asked.below hr i samples f x asked long))
        ∙ turns_same _ (put_word r a) words x (λ w z h.
        ap₂ (λ (k : ℕ) (bytes : List ℕ). put_at k bytes z) (sym (word_at y samples asked.turns r a hr ha i w)) (word_bytes_lem y samples asked.turns r a hr ha w (within w h)))

  -- what each sample's put keeps, they keep

  Kept : (List ℕ → Type 0) → Type 0
  Kept Q = (t : ℕ) → t < length samples → (x : List ℕ) → Whole x → Q x → Q (put t x)

  module _ (Q : List ℕ → Type 0) (kept : Kept Q) where
    abbrev Both : List ℕ → Type 0
    Both x = Whole x × Q x

    block_keeps : (r a : ℕ) (x : List ℕ) → r < half_of y → a < 9 → Both x → Both (put_block r a x)
    unfolding Kept
    block_keeps r a x hr ha p =
        subst Both (sym (block_is r a hr ha x p.0))
        (turns_keep (put_word r a) Both (words r a hr ha) x (λ w z h b. let ht = within r a hr ha w h in (put_whole _ ht z b.0, kept _ ht z b.0 b.1)) p)

    rank_keeps : (r : ℕ) (x : List ℕ) → r < half_of y → Both x → Both (rank_turn y i samples r x)
    unfolding rank_turn
    rank_keeps r x hr = turns_keep (put_block r) Both 9 x (λ a z ha. block_keeps r a z hr ha)

    all_keep : Q f → Both (turns (rank_turn y i samples) (half_of y) f)
    all_keep q = turns_keep (rank_turn y i samples) Both (half_of y) f rank_keeps (refl, q)

  whole_kept : Kept Whole
  unfolding Kept
  whole_kept t ht x long same = put_whole t ht x long

  -- sample t, which is word w of block a of rank r, is put and stays

  module _ (t : ℕ) (ht : t < length samples) where
    in_place_kept : Kept (InPlace t)
    unfolding Kept
    in_place_kept u hu x long = put_keeps y (i + 1) c1 c8 samples f asked.whole u (position u hu) x long t (position t ht)

    module _ (r a w : ℕ) (hr : r < half_of y) (ha : a < 9) (hw : w < 36) (is : sample_at (half_of y) r a w ≡ t) where
      block_does : (x : List ℕ) → Whole x → InPlace t (put_block r a x)
      unfolding Kept
      block_does x long =
          subst (InPlace t) (sym (block_is r a hr ha x long))
          (turns_do (put_word r a) Whole (InPlace t) (words r a hr ha) w x (word_there y samples asked.turns r a hr ha w hw (omega (arith, is)))
          (λ v z h. put_whole _ (within r a hr ha v h) z) long
          (λ z l. subst (λ (k : ℕ). InPlace t (put k z)) (sym is) (put_does y (i + 1) c1 c8 samples f asked.whole t (position t ht) z l))
          (λ v z h. in_place_kept _ (within r a hr ha v h) z))

      rank_does : (x : List ℕ) → Whole x → InPlace t (rank_turn y i samples r x)
      unfolding rank_turn
      rank_does x long =
          turns_do (put_block r) Whole (InPlace t) 9 a x ha (λ b z hb l. (block_keeps Whole whole_kept r b z hr hb (l, l)).0) long block_does
          (λ b z hb l d. (block_keeps (InPlace t) in_place_kept r b z hr hb (l, d)).1)

      all_do : InPlace t (turns (rank_turn y i samples) (half_of y) f)
      all_do =
          turns_do (rank_turn y i samples) Whole (InPlace t) (half_of y) r f hr (λ q z hq l. (rank_keeps Whole whole_kept q z hq (l, l)).0) refl rank_does
          (λ q z hq l d. (rank_keeps (InPlace t) in_place_kept q z hq (l, d)).1)

  pub loops_replace : turns (rank_turn y i samples) (half_of y) f ≡ replaced y f (i + 1) samples
  unfolding Kept
  loops_replace =
      let s : ℕ = half_of y in
      let half = half_cases y in
      replaced_one y (i + 1) c1 c8 samples f asked.whole few _ (all_keep Whole whole_kept refl).0
      (λ t ht.
      all_do t ht (rank_of s t) (audio_of s t) (word_number s t) (rank_below s half t) (audio_below s half t) (word_below s half t (omega (arith, few, positions_half y))) (sample_back s half t))
      (λ k apart.
      (all_keep (λ (x : List ℕ). get_or x k 0 ≡ get_or f k 0) (λ u hu x long same. put_stays y (i + 1) c1 c8 samples f asked.whole u (position u hu) x long k (apart u hu) ∙ same) refl).1)

-- ---- replace_audio

module _ (k : ℕ) (frame : List ℕ) (c : ℕ) (samples : List ℤ) where
  pub replace_stops : (cause : Cause) → cause_number cause ≡ replace_number k frame c samples → (r : ℕ) → r ≡ cause_number cause → Replaced k frame c samples r frame
  replace_stops cause e r er = replace_stopped k frame c samples r (er ∙ e) (λ z. never_zero cause (sym er ∙ z))

  module _ (er : 0 ≡ replace_number k frame c samples) (y : System) (is : FrameKnown k (length frame) y) where
    known : system_of k ≡ Some y
    known = is.known

    takes : Takes y frame c samples
    takes = taken_takes k frame c samples y known (sym er)

    pub channel_some : 1 ≤ c
    channel_some = takes_above takes

    pub frame_asked : FrameAsked frame y (c - 1) samples
    frame_asked = record {
      whole = takes.whole;
      below = omega (arith, takes_above takes, takes_below takes);
      turns = omega (arith, count_turns y (length samples) (takes_own takes));
    }

    pub frame_left : (frame' : List ℕ) → frame' ≡ turns (rank_turn y (c - 1) samples) (half_of y) frame → Replaced k frame c samples 0 frame'
    frame_left frame' ef =
        let c_is : c - 1 + 1 ≡ c = omega (arith, takes_above takes) in
        replace_done k y frame frame' c samples 0 known er refl
        (ef ∙ loops_replace y (c - 1) samples frame frame_asked (takes_few takes) ∙ ap (λ (n : ℕ). replaced y frame n samples) c_is)
