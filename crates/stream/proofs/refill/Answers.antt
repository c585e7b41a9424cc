-- `stream::refill` meets its contract: what is cut is what the refill gave. Assumes nothing.
use borrow.Author.Rules.{rules}
use Rattle.stream.proofs.Inputs.{least_within, refill_reads}
use Rattle.stream.proofs.refill.Goals as goal

pub slice_bounds-next-end : goal.slice_bounds-next-end
slice_bounds-next-end c = search (least_within, rules)

pub returns : goal.returns
returns c = search (refill_reads, rules)
