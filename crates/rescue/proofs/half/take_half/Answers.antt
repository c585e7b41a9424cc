-- `rescue::half::take_half` meets its contract: the samples of the sequences below rank r are taken. Assumes nothing.
use borrow.Author.Rules.{rules}
use Rattle.rescue.proofs.Halving.{rank_asked, half_none, half_turn, half_taken}
use Rattle.rescue.proofs.half.take_half.Goals as goal

pub loop-r-init : goal.loop-r-init
loop-r-init c = (half_none _ _ _, search rules)

pub take_rank-requires : goal.take_rank-requires
take_rank-requires c = search (rank_asked, rules)

pub loop-r-preserved : goal.loop-r-preserved
loop-r-preserved c = (search (half_turn, rules), search rules)

pub returns : goal.returns
returns c = search (half_taken, rules)
