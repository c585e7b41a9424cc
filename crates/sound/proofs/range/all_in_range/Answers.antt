-- `sound::range::all_in_range` meets its contract: the answer so far and that of what is left are the whole answer. Assumes nothing.
use mathlib.Core.Path.{◌≡◌, refl, sym, ap, ◌∙◌}
use mathlib.Core.Bool.{Bool, true, false, ◌&&◌}
use mathlib.Core.List.{List}
use Prim.Native.Nat.{ℕ, ◌≤◌, ◌<◌, ◌+◌}
use native.Mathlib.Numerals.{add-one}
use lib.IntN.{ℤ, pos}
use lib.ListN.{length, drop, get_or, drop_of_length-le}
use lib.Seq.{drop-cons}
use mir.Syntax.{w32}
use mir.ValLaws.{to_z-of_z}
use borrow.Author.Rules.{rules}
use Rattle.rules_format.specs.Samples.{in_range, all_in_range}
use Rattle.sound.proofs.range.all_in_range.Goals as goal
use Rattle.sound.proofs.range.all_in_range.Goals.{After-in_range-good}

and_assoc : (a b c : Bool) → (a && b) && c ≡ a && (b && c)
and_assoc true b c = refl
and_assoc false b c = refl

-- a turn: the number read is in 32 bits, and what was said of it joins the answer
turn : (xs : List ℤ) (i : ℕ) (good r : Bool) → good && all_in_range (drop i xs) ≡ all_in_range xs → i < length xs → r ≡ in_range (get_or xs i (pos 0))
    → (good && r) && all_in_range (drop (i + 1) xs) ≡ all_in_range xs
unfolding all_in_range
turn xs i good r e h er =
    and_assoc good r (all_in_range (drop (i + 1) xs))
    ∙ ap (λ (b : Bool). good && b) (rw (er, add-one, drop-cons xs i (pos 0) h) refl) ∙ e

done : (xs : List ℤ) (i : ℕ) (good : Bool) → good && all_in_range (drop i xs) ≡ all_in_range xs → length xs ≤ i → good ≡ all_in_range xs
unfolding all_in_range
done xs i good e h = and_true good ∙ ap (λ (l : List ℤ). good && all_in_range l) (sym (drop_of_length-le xs h)) ∙ e
  where
    and_true : (b : Bool) → b ≡ b && true
    and_true true = refl
    and_true false = refl

-- what the call says of the number that was read
told : (c : After-in_range-good)
    → c.in_range-good.result ≡ in_range (get_or c.args.numbers.now c.loop-x.x-index (pos 0))
told c = rw (to_z-of_z w32 (get_or c.args.numbers.now c.loop-x.x-index (pos 0)) (record { sfits = search rules })) at c.in_range-good.ensures

pub loop-x-preserved : goal.loop-x-preserved
loop-x-preserved c = turn _ _ c.loop-x.good c.in_range-good.result c.loop-x.invariant c.loop-x-test.true (told c)

pub returns : goal.returns
returns c = search (done, rules)
