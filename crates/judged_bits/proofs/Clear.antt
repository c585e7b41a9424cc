-- Blocks whose judged bits are their places' have no fault, and what a loop over them keeps. Assumes nothing.
use mathlib.Core.Path.{◌≡◌, refl, sym, ap, ◌∙◌}
use mathlib.Core.List.{List}
use mathlib.Core.Bool.{Bool, true, false, not, ◌&&◌, ◌||◌}
use Prim.Native.Nat.{ℕ, ◌+◌, ◌*◌, ◌≤◌, ◌<◌, ◌-◌, ◌%◌}
use native.Mathlib.Omega.{arith}
use lib.Dec.{eqb}
use lib.ListN.{take, drop, get_or, length}
use mir.Syntax.{w32}
use mir.Val.{Fits}
use borrow.Author.Tests.{eq-eqb, eqb-true, ne_eqb, lt-ltb, le-ltb}
use Rattle.std.proofs.Math.Bool.{and_comm}
use Rattle.base.specs.Below.{below}
use Rattle.base.specs.Run.{run}
use Rattle.base.proofs.Below.{below_more}
use Rattle.base.proofs.Parts.{range_part, length_part}
use Rattle.base.proofs.Picks.{pick_true, both_held, both_hold}
use Rattle.base.proofs.Runs.{run_zero, run_more}
use Rattle.paper.specs.declared.Fault.{Fault}
use Rattle.paper.specs.declared.IdAnswer.{IdAnswer}
use Rattle.rules_format.specs.Blocks.{block_in}
use Rattle.rules_format.specs.Ids.{block_answer}
use Rattle.rules_format.specs.Faults.{fault_at}
use Rattle.rules_surveys.specs.FaultLists.{block_faults, place_faults, sequence_faults}
use Rattle.rules_format.specs.Judging.{printed_places, key_of}
use Rattle.rules_format.proofs.Judging.{judged_names, printed_below, key_below}
use Rattle.rules_format.proofs.Places.{printed_at}
use Rattle.judged_bits.specs.Asked.{JudgedBlock}
use Rattle.judged_bits.specs.Clean.{is_named, clear_at, all_clear, BlockAsked, PartAsked, Clean}

-- ---- a block

-- judged bits that are the place's
pub clean_block : {block : List ℕ} {h q p e k r : ℕ} → BlockAsked block h q p e k → JudgedBlock block r → r ≡ e + k → fault_at block h q p ≡ 0
clean_block {block} {h} {q} {p} {e} {k} {r} a j s =
    let g = j.long a.long in
    let i = g.id in
    judged_names block h q p (omega (arith, a.long)) i.byte0 i.byte1 i.byte2 a.sequence.channel a.sequence.sequence a.below
    (sym g.bits ∙ s ∙ rw (a.entry, a.key) refl)

pub bits_below : {block : List ℕ} {h q p e k : ℕ} → BlockAsked block h q p e k → e + k < 10100000
bits_below {block} {h} {q} {p} {e} {k} a = omega (arith, a.entry, a.key, printed_below p a.below, key_below h q a.sequence.sequence)

-- ---- place p of a sequence, whose block is lent; the key is that of a number that Dseq can hold

pub place_asked : (part : List ℕ) (h q p : ℕ) → PartAsked part h q → p < 150 → (table : List ℕ) (k : ℕ) → table ≡ printed_places → k ≡ key_of h (q % 16)
    → BlockAsked (take (p * 80 + 80 - p * 80) (drop (p * 80) part)) h q p (get_or table p 0) k
place_asked part h q p a l table k e ek =
    let long = length_part (p * 80) 80 part (omega (arith, a.whole)) in
    let m : q % 16 ≡ q = omega (arith, a.sequence.sequence) in
    record {
      long = rw (range_part (p * 80) 80 part) (omega (arith, long));
      sequence = a.sequence;
      below = l;
      entry = rw e (printed_at p l);
      key = ek ∙ ap (key_of h) m;
    }

-- ---- a loop over the places

pub clean_start : (f : ℕ → List Fault) → Clean true (run f 0)
clean_start f = record { none = λ e. run_zero f }

-- whether an ID names a block, where that is asked: n is the parameter as a number
pub named_unasked : (n : ℕ) (named : Bool) (i : IdAnswer) → n ≡ 0 → named ≡ not (not (eqb n 0)) → named ≡ (not (not (eqb n 0)) || is_named i)
named_unasked n named i z e = rw (e, eq-eqb n 0 z) refl

pub named_asked : (n : ℕ) (named : Bool) (i : IdAnswer) → (n ≡ 0 → ⊥) → (r : IdAnswer) → r ≡ i → (b : Bool) → b ≡ is_named r → named ≡ b → named ≡ (not (not (eqb n 0)) || is_named i)
named_asked n named i d r er b eb e = rw (ne_eqb n 0 d) (e ∙ eb ∙ ap is_named er)

-- a turn of a loop
clean_turn : (f : ℕ → List Fault) (i : ℕ) (a b : Bool) → Clean a (run f i) → Clean b (f i) → Clean (a && b) (run f (i + 1))
clean_turn f i a b m n =
    record { none = λ e. let w = both_held a b e in rw run_more (rw (m.none w.0, n.none w.1) refl) }

module _ (part : List ℕ) (h q p : ℕ) (a : PartAsked part h q) (l : p < 150) (table : List ℕ) (k : ℕ) (e : table ≡ printed_places) (ek : k ≡ key_of h (q % 16)) where
  pub bits_fit : Fits w32 (get_or table p 0 + k)
  bits_fit = record { fits = omega (arith, bits_below (place_asked part h q p a l table k e ek)) }

  module _ (good : Bool) (bits : ℕ) (m : Clean good (run (place_faults part h q) p)) (j : JudgedBlock (take (p * 80 + 80 - p * 80) (drop (p * 80) part)) bits) where
    pub clean_bits : Clean (good && eqb bits (get_or table p 0 + k)) (run (place_faults part h q) (p + 1))
    unfolding block_in block_faults
    clean_bits =
        clean_turn (place_faults part h q) p good _ m
        (record { none = λ s. pick_true _ _ (eq-eqb _ 0 (rw (range_part (p * 80) 80 part) at (clean_block (place_asked part h q p a l table k e ek) j (eqb-true _ _ s)))) })

    -- a flag that says more, and what it is
    pub clean_named : (named : Bool) → Clean (good && (named && eqb bits (get_or table p 0 + k))) (run (place_faults part h q) (p + 1))
    clean_named named =
        record { none = λ s. let two = both_held good _ s in clean_bits.none (both_hold two.0 (both_held named _ two.1).1) }

  module _ (ask good named : Bool) (bits : ℕ) (j : JudgedBlock (take (p * 80 + 80 - p * 80) (drop (p * 80) part)) bits) where
    block_clear : named ≡ (not ask || is_named (block_answer (take (p * 80 + 80 - p * 80) (drop (p * 80) part)))) → (named && eqb bits (get_or table p 0 + k)) ≡ clear_at ask part h q p
    unfolding clear_at block_in
    block_clear n =
        let b = place_asked part h q p a l table k e ek in
        let g = j.long b.long in
        rw (n, g.bits, b.entry, b.key, range_part (p * 80) 80 part) refl

    pub clear_turn :
        good ≡ below (clear_at ask part h q) p → named ≡ (not ask || is_named (block_answer (take (p * 80 + 80 - p * 80) (drop (p * 80) part))))
        → (good && (named && eqb bits (get_or table p 0 + k))) ≡ below (clear_at ask part h q) (p + 1)
    clear_turn m n = rw (m, block_clear n) (and_comm (below (clear_at ask part h q) p) _ ∙ below_more (clear_at ask part h q) p)

-- ---- the flag after the places, and before them where the part is none that is asked of

pub clear_places : (ask : Bool) (part : List ℕ) (h q p : ℕ) (good : Bool) → length part ≡ 12000 → h < 4 → q < 16 → p ≤ 150 → 150 ≤ p → good ≡ below (clear_at ask part h q) p → good ≡ all_clear ask part h q
unfolding all_clear
clear_places ask part h q p good w hh hq a b m =
    let e : p ≡ 150 = omega arith in rw (eq-eqb _ _ w, lt-ltb _ _ hh, lt-ltb _ _ hq) (rw e at m)

pub clear_length : (ask : Bool) (part : List ℕ) (h q : ℕ) → (length part ≡ 12000 → ⊥) → false ≡ all_clear ask part h q
unfolding all_clear
clear_length ask part h q d = rw (ne_eqb _ _ d) refl

pub clear_channel : (ask : Bool) (part : List ℕ) (h q : ℕ) → length part ≡ 12000 → 4 ≤ h → false ≡ all_clear ask part h q
unfolding all_clear
clear_channel ask part h q w l = rw (eq-eqb _ _ w, le-ltb _ _ l) refl

pub clear_sequence : (ask : Bool) (part : List ℕ) (h q : ℕ) → length part ≡ 12000 → h < 4 → 16 ≤ q → false ≡ all_clear ask part h q
unfolding all_clear
clear_sequence ask part h q w hh l = rw (eq-eqb _ _ w, lt-ltb _ _ hh, le-ltb _ _ l) refl

pub clean_places : (part : List ℕ) (h q p : ℕ) (good : Bool) → p ≤ 150 → 150 ≤ p → Clean good (run (place_faults part h q) p) → Clean good (sequence_faults part h q)
unfolding sequence_faults
clean_places part h q p good a b m = let e : p ≡ 150 = omega arith in rw e at m
