-- What a block, a sequence and a half add to the samples taken before. s is n/2. Assumes nothing.
use mathlib.Core.Path.{◌≡◌, refl, sym, ap, ap₂, ◌∙◌, subst}
use mathlib.Core.Bool.{Bool, true, false, ◌&&◌}
use mathlib.Core.List.{List}
use mathlib.Core.Logic.{⊎_elim}
use Prim.Native.Nat.{ℕ, ◌+◌, ◌*◌, ◌-◌, ◌%◌, ◌≤◌, ◌<◌}
use native.Mathlib.Nat.{mod-lt}
use native.Mathlib.Omega.{arith}
use lib.Dec.{eqb, leb}
use lib.IntN.{ℤ, pos}
use lib.ListN.{length, take, drop, get_or, set}
use mir.Syntax.{w32}
use mir.Val.{Fits}
use borrow.Author.Tests.{eqb-true, leb-true, eq-eqb, le-leb}
use Rattle.base.specs.Pick.{pick}
use Rattle.base.proofs.Parts.{range_part, length_part}
use Rattle.base.proofs.Picks.{pick_true, pick_false, both_held}
use Rattle.paper.specs.declared.System.{System}
use Rattle.paper.specs.declared.Section.TheVariants.{Audio}
use Rattle.paper.specs.declared.Place.{Place}
use Rattle.paper.specs.declared.Sample.{Sample}
use Rattle.paper.specs.declared.Sample.TheVariants.{Lost}
use Rattle.rules_format.specs.Systems.{half_of, positions_of}
use Rattle.rules_format.specs.Places.{block, place_in, place_for}
use Rattle.rules_format.specs.Ids.{block_answer}
use Rattle.rules_format.specs.Blocks.{block_in}
use Rattle.rules_format.specs.Samples.{number_of, sample_of}
use Rattle.rules_format.specs.Sound.{rank_of, audio_of, sound_place, word_number, rank_at, first_at, sample_at}
use Rattle.rules_format.specs.Faults.{fault_of, fault_at, names}
use Rattle.rules_format.proofs.Systems.{half_cases, positions_half}
use Rattle.rules_format.proofs.Places.{entry_place_in, place_for_lem}
use Rattle.rules_format.proofs.Sound.{half_some, half_le, sample_back, audio_below, word_below, first_below, rank_sample, audio_sample}
use Rattle.sequence_samples.specs.Taken.{held_word, held_block, held_part, Placed, Between, blocks_taken}
use Rattle.sequence_samples.specs.Asked.{WordsAsked, BlockAsked, PartAsked}
use Rattle.sequence_samples.proofs.Between.{placed_more, word_within, between_none, between_next, between_same}

-- ---- put_words: word w, of which `high` and `low` are the bytes

pub word_placed : (block : List ℕ) (named : Bool) (first step room : ℕ) (before now : List ℤ) (w t : ℕ) (held kept : Sample) (x : ℤ) → WordsAsked block first step room
    → Placed first step (λ (k : ℕ). held_word named block (8 + 2 * k)) w before now → t ≡ first + step * w → t < length now
    → held ≡ sample_of (get_or block (8 + 2 * w) 0 * 256 + get_or block (9 + 2 * w) 0) → kept ≡ pick named held Lost → x ≡ number_of kept
    → Placed first step (λ (k : ℕ). held_word named block (8 + 2 * k)) (w + 1) before (set now t x)
word_placed block named first step room before now w t held kept x a p et l eh ek ex =
    let next : 9 + 2 * w ≡ 8 + 2 * w + 1 = omega arith in
    placed_more first step _ before now w t x p (omega (arith, a.start)) et l
    (ex ∙ ap number_of (ek ∙ ap (λ (z : Sample). pick named z Lost) (eh ∙ ap (λ (i : ℕ). sample_of (get_or block (8 + 2 * w) 0 * 256 + get_or block i 0)) next)))

-- a word that has room is one of the 36
pub word_room : {block : List ℕ} {first step w t : ℕ} {g : ℕ → ℤ} {before now : List ℤ} → WordsAsked block first step (length before) → Placed first step g w before now
    → t ≡ first + step * w → t < length now → w < 36
word_room {block} {first} {step} {w} {t} {g} {before} {now} a p et l = word_within first step w t (length now) et l (omega (arith, a.room, p.size))

pub step_fits : (y : System) (n : ℕ) → n ≡ half_of y → Fits w32 (9 * n)
step_fits y n e = omega (arith, half_le (half_of y) (half_cases y))

-- ---- take_block: audio block a of sequence q of DIF channel h

module _ (y : System) (bytes : List ℕ) (q a : ℕ) (before : List ℤ) (asked : BlockAsked bytes y a (length before)) (first n : ℕ)
    (ef : first ≡ first_at (half_of y) (rank_at (half_of y) q) (a % 9)) (es : n ≡ half_of y) where
  rank_some : rank_at (half_of y) q < half_of y
  rank_some = mod-lt q (half_some (half_of y) (half_cases y))

  first_is : first ≡ first_at (half_of y) (rank_at (half_of y) q) a
  first_is =
      let e : a % 9 ≡ a = omega (arith, asked.audio) in
      ef ∙ ap (first_at (half_of y) (rank_at (half_of y) q)) e

  pub words_asked : WordsAsked bytes first (9 * n) (length before)
  words_asked =
      let s = half_of y in
      record {
        whole = asked.whole;
        start = omega (arith, first_is, es, first_below s (half_cases y) (rank_at s q) a rank_some asked.audio);
        small = omega (arith, es, half_le s (half_cases y));
        room = omega (arith, es, asked.room, positions_half y);
      }

  there : (k : ℕ) → first + 9 * n * k ≡ sample_at (half_of y) (rank_at (half_of y) q) a k
  there k = omega (arith, first_is, ap (λ (j : ℕ). 9 * j * k) es)

  -- `named` is the answer whether the block names its place
  module _ (h : ℕ) (named : Bool) (en : named ≡ eqb (fault_of (block_answer bytes) h q (block Audio a)) 0) where
    named_there : (t : ℕ) → audio_of (half_of y) t ≡ a → named ≡ names bytes h q (sound_place (half_of y) t)
    unfolding fault_at
    named_there t e = en ∙ rw (e, entry_place_in Audio a asked.audio) refl

    pub block_taken : (now : List ℤ) → Placed first (9 * n) (λ (k : ℕ). held_word named bytes (8 + 2 * k)) 36 before now
        → Between (half_of y) (9 * rank_at (half_of y) q + a) (9 * rank_at (half_of y) q + a + 1) (held_block (half_of y) bytes h q) before now
    unfolding held_block
    block_taken now p =
        let s = half_of y in
        let half = half_cases y in
        let r = rank_at s q in
        record {
          size = p.size;
          taken = λ t l lo hi.
              let er : rank_of s t ≡ r = omega (arith, audio_below s half t, asked.audio) in
              let ea : audio_of s t ≡ a = omega (arith, er) in
              let k = word_number s t in
              let e : first + 9 * n * k ≡ t = there k ∙ ap₂ (λ (i j : ℕ). sample_at s i j k) (sym er) (sym ea) ∙ sample_back s half t in
              let room : t < 36 * (9 * s) = omega (arith, asked.room, positions_half y) in
              ap (λ (i : ℕ). get_or now i (pos 0)) (sym e)
              ∙ p.hit k (word_below s half t room) (omega (arith, e))
              ∙ ap (λ (b : Bool). held_word b bytes (8 + 2 * k)) (named_there t ea);
          others = λ t o.
              p.miss t (λ k hk e.
              let at : t ≡ sample_at s r a k = e ∙ there k in
              let er : rank_of s t ≡ r = ap (rank_of s) at ∙ rank_sample s half r a rank_some asked.audio k in
              let ea : audio_of s t ≡ a = ap (audio_of s) at ∙ audio_sample s half r a rank_some asked.audio k in
              ⊎_elim (λ below. omega (arith, er, ea)) (λ above. omega (arith, er, ea)) o);
        }

-- ---- take_part: audio block a of a sequence, lent from its byte; b is what the place rule says

audio_place : (a : ℕ) (b : Place) → b ≡ place_for Audio (record { 0 = a }) → a < 9 → b.0 ≡ place_in Audio a
audio_place a b e l = ap (λ (x : Place). x.0) (e ∙ place_for_lem Audio _ l)

pub block_ends : (part : List ℕ) (y : System) (n a : ℕ) (b : Place) → PartAsked part y n → b ≡ place_for Audio (record { 0 = a }) → a < 9 → b.0 * 80 + 80 ≤ length part
block_ends part y n a b asked e l = omega (arith, asked.whole, audio_place a b e l)

module _ (part : List ℕ) (y : System) (h q a : ℕ) (before mid now : List ℤ) (asked : PartAsked part y (length before)) (l : a < 9) (b : Place) (eb : b ≡ place_for Audio (record { 0 = a }))
    (p : Between (half_of y) (9 * rank_at (half_of y) q) (9 * rank_at (half_of y) q + a) (held_part (half_of y) part h q) before mid) where
  pub block_asked : BlockAsked (take (b.0 * 80 + 80 - b.0 * 80) (drop (b.0 * 80) part)) y a (length mid)
  block_asked =
      record {
        whole = ap length (range_part (b.0 * 80) 80 part) ∙ length_part (b.0 * 80) 80 part (block_ends part y _ a b asked eb l);
        audio = l;
        room = omega (arith, asked.room, p.size);
      }

  pub part_turn : Between (half_of y) (9 * rank_at (half_of y) q + a) (9 * rank_at (half_of y) q + a + 1)
      (held_block (half_of y) (take (b.0 * 80 + 80 - b.0 * 80) (drop (b.0 * 80) part)) h q) mid now
      → Between (half_of y) (9 * rank_at (half_of y) q) (9 * rank_at (half_of y) q + (a + 1)) (held_part (half_of y) part h q) before now
  unfolding held_part block_in
  part_turn n =
      let s = half_of y in
      let r = rank_at s q in
      let e : 9 * r + a + 1 ≡ 9 * r + (a + 1) = omega arith in
      let m = subst (λ (i : ℕ). Between s (9 * r + a) i (held_block s (take (b.0 * 80 + 80 - b.0 * 80) (drop (b.0 * 80) part)) h q) mid now) e n in
      between_next s (9 * r) (9 * r + a) (9 * r + (a + 1)) _ before mid now (omega arith) (omega arith) p
      (between_same s (9 * r + a) (9 * r + (a + 1)) _ _ mid now (λ t lo hi.
      let er : rank_of s t ≡ r = omega (arith, audio_below s (half_cases y) t) in
      let ea : audio_of s t ≡ a = omega (arith, er) in
      let there : b.0 ≡ sound_place s t = audio_place a b eb l ∙ ap (place_in Audio) (sym ea) in
      ap (λ (x : List ℕ). held_block s x h q t) (range_part (b.0 * 80) 80 part ∙ ap (λ (i : ℕ). take 80 (drop (i * 80) part)) there)) m)

pub part_done : (part : List ℕ) (y : System) (h q a : ℕ) (before now : List ℤ) → a ≤ 9 → 9 ≤ a
    → Between (half_of y) (9 * rank_at (half_of y) q) (9 * rank_at (half_of y) q + a) (held_part (half_of y) part h q) before now
    → Between (half_of y) (9 * rank_at (half_of y) q) (9 * rank_at (half_of y) q + 9) (held_part (half_of y) part h q) before now
part_done part y h q a before now le ge p = let e : a ≡ 9 = omega arith in rw e at p

pub part_none : (part : List ℕ) (y : System) (h q : ℕ) (l : List ℤ) → Between (half_of y) (9 * rank_at (half_of y) q) (9 * rank_at (half_of y) q + 0) (held_part (half_of y) part h q) l l
part_none part y h q l = let e : 9 * rank_at (half_of y) q + 0 ≡ 9 * rank_at (half_of y) q = omega arith in rw e (between_none _ _ _ l)

-- ---- take_sequence: n is what `positions` answers

module _ (part : List ℕ) (y : System) (n : ℕ) (before : List ℤ) (en : n ≡ positions_of y) where
  fit : (eqb (length part) 12000 && leb (length before) (positions_of y)) ≡ (eqb (length part) 12000 && leb (length before) n)
  fit = rw en refl

  module _ (e : (eqb (length part) 12000 && leb (length before) n) ≡ true) where
    pub sequence_asked : PartAsked part y (length before)
    sequence_asked = let w = both_held _ _ (fit ∙ e) in record { whole = eqb-true _ _ w.0; room = leb-true _ _ w.1 }

    pub sequence_taken : (h q : ℕ) (now : List ℤ) → Between (half_of y) (9 * rank_at (half_of y) q) (9 * rank_at (half_of y) q + 9) (held_part (half_of y) part h q) before now
        → Between (half_of y) (9 * rank_at (half_of y) q) (9 * rank_at (half_of y) q + blocks_taken y (length part) (length before)) (held_part (half_of y) part h q) before now
    unfolding blocks_taken
    sequence_taken h q now p = rw (pick_true {A = ℕ} 9 0 (fit ∙ e)) p

  pub sequence_left : (eqb (length part) 12000 && leb (length before) n) ≡ false → (h q : ℕ)
      → Between (half_of y) (9 * rank_at (half_of y) q) (9 * rank_at (half_of y) q + blocks_taken y (length part) (length before)) (held_part (half_of y) part h q) before before
  unfolding blocks_taken
  sequence_left e h q = rw (pick_false {A = ℕ} 9 0 (fit ∙ e)) (part_none part y h q before)

-- all nine of a sequence that fits
pub nine_taken : (y : System) (size room : ℕ) → size ≡ 12000 → room ≤ positions_of y → blocks_taken y size room ≡ 9
unfolding blocks_taken
nine_taken y size room e l = pick_true {A = ℕ} 9 0 (rw (eq-eqb _ _ e, le-leb _ _ l) refl)
