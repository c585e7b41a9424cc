-- `sequence_samples::take_part` meets its contract: the samples of the audio blocks below a are taken. Assumes nothing.
use borrow.Author.Rules.{rules}
use Rattle.sequence_samples.proofs.Ways.{block_ends, block_asked, part_turn, part_done, part_none}
use Rattle.sequence_samples.proofs.take_part.Goals as goal

pub loop-a-init : goal.loop-a-init
loop-a-init c = part_none _ _ _ _ _

pub slice_bounds-take_block-end : goal.slice_bounds-take_block-end
slice_bounds-take_block-end c = search (block_ends, rules)

pub take_block-requires : goal.take_block-requires
take_block-requires c = search (block_asked, rules)

pub loop-a-preserved : goal.loop-a-preserved
loop-a-preserved c = search (part_turn, rules)

pub returns : goal.returns
returns c = search (part_done, rules)
