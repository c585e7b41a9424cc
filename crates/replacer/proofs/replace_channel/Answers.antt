-- `replacer::replace_channel` meets its contract: the first sequences are done. Assumes nothing.
use mathlib.Core.Path.{sym}
use borrow.Author.Rules.{rules}
use Rattle.base.proofs.Puts.{turns_none}
use Rattle.replacer.proofs.Ways.{rank_asked, part_fits, end_fits, part_asked, rank_turn_lem, ranks_done}
use Rattle.replacer.proofs.replace_channel.Goals as goal

pub loop-r-init : goal.loop-r-init
loop-r-init c = sym (turns_none _ _)

pub rank_start-at-requires : goal.rank_start-at-requires
rank_start-at-requires c = search (rank_asked, rules)

pub overflow_add-to : goal.overflow_add-to
overflow_add-to c = search (end_fits, rules)

pub slice_bounds-replace_sequence-end : goal.slice_bounds-replace_sequence-end
slice_bounds-replace_sequence-end c = search (part_fits, rules)

pub replace_sequence-requires : goal.replace_sequence-requires
replace_sequence-requires c = search (part_asked, rules)

pub loop-r-preserved : goal.loop-r-preserved
loop-r-preserved c = search (rank_turn_lem, rules)

pub returns : goal.returns
returns c = search (ranks_done, rules)
