-- `writer::sequence::write_blocks` meets its contract: the first blocks are written, and the rest is as it was. Assumes nothing.
use borrow.Author.Rules.{rules}
use Rattle.base.proofs.Filling.{filled_none, filled_end}
use Rattle.writer.proofs.Whole.{blocks_turn}
use Rattle.writer.proofs.sequence.write_blocks.Goals as goal

pub loop-k-init : goal.loop-k-init
loop-k-init g c = λ bytes wide puts. filled_none 80 bytes _

pub loop-k-preserved : goal.loop-k-preserved
loop-k-preserved g c = λ bytes wide puts. blocks_turn bytes wide _ _ _ _ _ (c.loop-k.invariant bytes wide puts) c.loop-k-test.true c.requires.long c.loop-k.auto.part (λ long. puts _ _ _ c.loop-k-test.true long c.put.ensures)

pub returns : goal.returns
returns g c = λ bytes wide puts. filled_end 80 bytes _ _ _ _ (c.loop-k.invariant bytes wide puts) c.requires.long c.loop-k.auto.k-end (search rules)
