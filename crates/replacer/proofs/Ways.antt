-- Each way out of the loops, by what their callees left. Assumes nothing.
use mathlib.Core.Path.{◌≡◌, sym, ap, ap₂, ◌∙◌}
use mathlib.Core.List.{List}
use Prim.Native.Nat.{ℕ, ◌+◌, ◌-◌, ◌*◌, ◌≤◌, ◌<◌}
use native.Mathlib.Nat.{mul-le-mul_left}
use native.Mathlib.Omega.{arith}
use lib.IntN.{ℤ}
use lib.ListN.{length, take, drop}
use mir.Syntax.{w64}
use mir.Val.{Fits}
use borrow.Rule.Slice.PartMut.{put_mid}
use Rattle.base.specs.Pick.{pick}
use Rattle.base.specs.Put.{put_at, turns}
use Rattle.base.proofs.Parts.{length_part, range_part}
use Rattle.base.proofs.Picks.{pick_either}
use Rattle.base.proofs.Runs.{length_run}
use Rattle.base.proofs.Puts.{put_lent, put_length, put_through, put_turns, turns_keep, turns_more, turns_all}
use Rattle.paper.specs.declared.System.{System}
use Rattle.paper.specs.declared.Section.TheVariants.{Audio}
use Rattle.paper.specs.declared.Place.{Place}
use Rattle.rules_format.specs.Systems.{half_of}
use Rattle.rules_format.specs.Places.{place_in, place_for}
use Rattle.rules_format.specs.Sound.{rank_at, sample_at}
use Rattle.rules_writes.specs.Written.{word_bytes}
use Rattle.rules_format.proofs.Systems.{half_cases, half_twice, sequences_le}
use Rattle.rules_format.proofs.Places.{place_for_lem}
use Rattle.rules_format.proofs.Sound.{half_le}
use Rattle.rules_writes.proofs.Written.{word_wide}
use Rattle.sample_words.specs.Words.{words_below, words_put, words_fit}
use Rattle.sample_words.proofs.Words as words
use Rattle.replacer.specs.Asked.{BlockAsked, PartAsked, RankAsked, FrameAsked}
use Rattle.replacer.specs.Turns.{block_words, words_at, block_turn, rank_start, rank_turn}

-- ---- replace_block

module _ (y : System) (samples : List ℤ) (r a : ℕ) where
  words_length : length (block_words y samples r a) ≡ words_below samples (sample_at (half_of y) (rank_at (half_of y) r) a 35) * 2
  unfolding block_words
  words_length = length_run 2 (word_bytes y samples r a) (word_wide y samples r a) _

  pub words_within : length (block_words y samples r a) ≤ 72
  words_within = rw words_length (pick_either (λ (n : ℕ). n * 2 ≤ 72) _ (omega arith) (omega arith))

  -- in bytes 8 to 79 they come first
  words_put_lem : (part : List ℕ) → words_put y samples r a part ≡ put_at 0 (block_words y samples r a) part
  unfolding words_put block_words
  words_put_lem part = put_lent 0 (block_words y samples r a) part _ (sym words_length)

  pub block_put : (block ys : List ℕ) → BlockAsked block y samples a
      → ys ≡ pick (words_fit (length (take 72 (drop 8 block))) y (length samples) a) (words_put y samples r a (take 72 (drop 8 block))) (take 72 (drop 8 block))
      → put_mid 8 72 block ys ≡ put_at 8 (block_words y samples r a) block
  block_put block ys asked e =
      let part : List ℕ = take 72 (drop 8 block) in
      let long : length (take 72 (drop 8 block)) ≡ 72 = length_part 8 72 block (omega (arith, asked.long)) in
      let e' : ys ≡ words_put y samples r a (take 72 (drop 8 block)) = e ∙ words.put_fits y samples r a part long asked.below asked.turns in
      put_lent 8 ys block 72 (sym (ap length e' ∙ words.put_length y samples r a part long))
      ∙ ap (λ (b : List ℕ). put_at 8 b block) (e' ∙ words_put_lem part)
      ∙ put_through 8 72 0 (block_words y samples r a) block (omega (arith, words_within)) (omega (arith, asked.long))

-- ---- replace_sequence: p is what `place_in` answers

module _ (y : System) (samples : List ℤ) (before part : List ℕ) (asked : PartAsked before y samples) (same : length part ≡ length before) (p : Place) where
  module _ (a : ℕ) (below : a < 9) (ep : p ≡ place_for Audio (record { 0 = a })) where
    p_is : p.0 ≡ place_in Audio a
    p_is = ap (λ (x : Place). x.0) (ep ∙ place_for_lem Audio (record { 0 = a }) below)

    pub block_fits : p.0 * 80 + 80 ≤ length part
    block_fits = omega (arith, p_is, same, asked.long)

    pub block_asked : (b : ℕ) → b < 9 → BlockAsked (take (p.0 * 80 + 80 - p.0 * 80) (drop (p.0 * 80) part)) y samples b
    block_asked b h = record { long = ap length (range_part (p.0 * 80) 80 part) ∙ length_part (p.0 * 80) 80 part block_fits; below = h; turns = asked.turns }

    pub block_turn_lem : (r : ℕ) (ys : List ℕ) → part ≡ turns (block_turn y samples r) a before → ys ≡ put_at 8 (block_words y samples r a) (take (p.0 * 80 + 80 - p.0 * 80) (drop (p.0 * 80) part))
        → put_mid (p.0 * 80) (p.0 * 80 + 80 - p.0 * 80) part ys ≡ turns (block_turn y samples r) (a + 1) before
    unfolding block_turn
    block_turn_lem r ys is e =
        let at : ℕ = p.0 * 80 in
        let words : List ℕ = block_words y samples r a in
        let e' : ys ≡ put_at 8 (block_words y samples r a) (take 80 (drop (p.0 * 80) part)) = e ∙ ap (put_at 8 words) (range_part at 80 part) in
        let cut : length (take 80 (drop (p.0 * 80) part)) ≡ 80 = length_part at 80 part block_fits in
        let long : length ys ≡ 80 = ap length e' ∙ put_length 8 words _ (omega (arith, words_within y samples r a, cut)) ∙ cut in
        put_lent at ys part (at + 80 - at) (omega (arith, long))
        ∙ ap (λ (b : List ℕ). put_at at b part) e'
        ∙ put_through at 80 8 words part (omega (arith, words_within y samples r a)) block_fits
        ∙ ap₂ (λ (k : ℕ) (b : List ℕ). put_at (k * 80 + 8) words b) p_is is
        ∙ turns_more (block_turn y samples r) a before

-- ---- rank_start and replace_channel: m is what `half` answers

module _ (y : System) (i r m : ℕ) (em : m ≡ half_of y) where
  rank_below : RankAsked y i r → m * i + r < 8 * half_of y
  rank_below asked = let l : m * i ≤ m * 7 = mul-le-mul_left m (omega (arith, asked.below)) in omega (arith, em, l, asked.rank)

  pub rank_small : RankAsked y i r → m * i + r < 48
  rank_small asked = omega (arith, rank_below asked, half_le (half_of y) (half_cases y))

  pub start_is : (m * i + r) * 12000 ≡ rank_start y i r
  start_is = ap (λ (x : ℕ). (x * i + r) * 12000) em

  pub rank_asked : i < 8 → r < m → RankAsked y i r
  rank_asked below rank = record { below = below; rank = omega (arith, em) }

  module _ (at : ℕ) (at-is : at ≡ rank_start y i r) (below : i < 8) (rank : r < m)
      (c : ℕ) (samples : List ℤ) (before frame : List ℕ) (asked : FrameAsked before y c samples) (same : length frame ≡ length before) where
    pub part_fits : at + 12000 ≤ length frame
    part_fits = omega (arith, at-is, start_is, rank_below (rank_asked below rank), same, asked.whole, half_twice y)

    pub end_fits : Fits w64 (at + 12000)
    end_fits = omega (arith, part_fits, same, asked.whole, sequences_le y)

    pub part_asked : PartAsked (take (at + 12000 - at) (drop at frame)) y samples
    part_asked = record { long = ap length (range_part at 12000 frame) ∙ length_part at 12000 frame part_fits; turns = asked.turns }

    pub rank_turn_lem : (ys : List ℕ) → frame ≡ turns (rank_turn y i samples) r before → ys ≡ turns (block_turn y samples r) 9 (take (at + 12000 - at) (drop at frame))
        → put_mid at (at + 12000 - at) frame ys ≡ turns (rank_turn y i samples) (r + 1) before
    unfolding block_turn rank_turn
    rank_turn_lem ys is e =
        let fits : (a : ℕ) → a < 9 → words_at a + length (block_words y samples r a) ≤ 12000 = λ a h. omega (arith, words_within y samples r a) in
        let e' : ys ≡ turns (block_turn y samples r) 9 (take 12000 (drop at frame)) = e ∙ ap (turns (block_turn y samples r) 9) (range_part at 12000 frame) in
        let long : length ys ≡ 12000 =
        ap length e'
        ∙ turns_keep (block_turn y samples r) (λ (l : List ℕ). length l ≡ 12000) 9 (take 12000 (drop at frame))
        (λ a l h n. put_length (words_at a) (block_words y samples r a) l (omega (arith, n, fits a h)) ∙ n) (length_part at 12000 frame part_fits) in
        put_lent at ys frame (at + 12000 - at) (omega (arith, long))
        ∙ ap (λ (b : List ℕ). put_at at b frame) e'
        ∙ put_turns words_at (block_words y samples r) at 12000 9 frame part_fits fits
        ∙ ap₂ (λ (k : ℕ) (b : List ℕ). turns (λ (a : ℕ). put_at (k + words_at a) (block_words y samples r a)) 9 b) at-is is
        ∙ turns_more (rank_turn y i samples) r before

  pub ranks_done : (samples : List ℤ) (before frame : List ℕ) → frame ≡ turns (rank_turn y i samples) r before → r ≤ half_of y → m ≤ r → frame ≡ turns (rank_turn y i samples) (half_of y) before
  ranks_done samples before frame is le ge = turns_all (rank_turn y i samples) (half_of y) r before frame is le (omega (arith, em))
