-- `views::block_start` meets its contract: the sum is the start, and the block ends in the frame. Assumes nothing.
use Rattle.std.proofs.Common.{rules, arith}
use Rattle.views.proofs.Ways.{starts_below, start_is}
use Rattle.views.proofs.block_start.Goals as goal

pub overflow_add-result : goal.overflow_add-result
overflow_add-result c = omega (arith, starts_below _ _ _ _ _ c.requires c.start.ensures, c.requires.place)

pub returns : goal.returns
returns c = search (start_is, rules)
