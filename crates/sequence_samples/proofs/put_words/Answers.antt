-- `sequence_samples::put_words` meets its contract: the first words are put, and t is the next sample. Assumes nothing.
use mathlib.Core.Path.{◌∙◌}
use native.Mathlib.Omega.{arith}
use mir.Syntax.{w32}
use mir.ValLaws.{to_z-of_z}
use borrow.Author.Rules.{rules, sfits_of}
use Rattle.sequence_samples.proofs.Ways.{word_placed, word_room}
use Rattle.sequence_samples.proofs.Between.{placed_none, placed_end}
use Rattle.sequence_samples.proofs.put_words.Goals as goal

pub loop-t-init : goal.loop-t-init
loop-t-init c = (placed_none _ _ _ _, omega arith, omega arith)

pub bounds-block-w : goal.bounds-block-w
bounds-block-w c = omega (arith, word_room c.requires c.loop-t.invariant.0 c.loop-t.invariant.1 c.loop-t-test.true)

pub bounds-block-w-in-loop-t : goal.bounds-block-w-in-loop-t
bounds-block-w-in-loop-t c = omega (arith, word_room c.requires c.loop-t.invariant.0 c.loop-t.invariant.1 c.loop-t-test.true)

pub loop-t-smaller : goal.loop-t-smaller
loop-t-smaller c = omega (arith, word_room c.requires c.loop-t.invariant.0 c.loop-t.invariant.1 c.loop-t-test.true)

pub loop-t-preserved : goal.loop-t-preserved
loop-t-preserved c = (
  word_placed _ _ _ _ _ _ _ _ _ _ _ _ c.requires c.loop-t.invariant.0 c.loop-t.invariant.1 c.loop-t-test.true
      c.sample_of.ensures c.or_lost.ensures (to_z-of_z w32 _ (sfits_of c.number_of-x.type_inv) ∙ c.number_of-x.ensures),
  omega arith,
  omega (arith, word_room c.requires c.loop-t.invariant.0 c.loop-t.invariant.1 c.loop-t-test.true),
)

pub returns : goal.returns
returns c = search (placed_end, rules)
