-- `replacer::replace_sequence` meets its contract: the first blocks are done. Assumes nothing.
use mathlib.Core.Path.{sym}
use borrow.Author.Rules.{rules}
use Rattle.base.proofs.Puts.{turns_none, turns_all}
use Rattle.replacer.proofs.Ways.{block_fits, block_asked, block_turn_lem}
use Rattle.replacer.proofs.replace_sequence.Goals as goal

pub loop-a-init : goal.loop-a-init
loop-a-init c = sym (turns_none _ _)

pub overflow_mul-at : goal.overflow_mul-at
overflow_mul-at c = search (block_fits, rules)

pub overflow_add-to : goal.overflow_add-to
overflow_add-to c = search (block_fits, rules)

pub slice_bounds-replace_block-end : goal.slice_bounds-replace_block-end
slice_bounds-replace_block-end c = search (block_fits, rules)

pub replace_block-requires : goal.replace_block-requires
replace_block-requires c = search (block_asked, rules)

pub loop-a-preserved : goal.loop-a-preserved
loop-a-preserved c = search (block_turn_lem, rules)

pub returns : goal.returns
returns c = search (turns_all, rules)
