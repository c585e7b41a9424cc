-- `rescue::half::take_rank` meets its contract: it is a sequence of the frame. Assumes nothing.
use borrow.Author.Rules.{rules}
use Rattle.rescue.proofs.Halving.{rank_taken}
use Rattle.rescue.proofs.half.take_rank.Goals as goal

pub returns : goal.returns
returns c = search (rank_taken, rules)
