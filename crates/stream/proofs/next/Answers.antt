-- `stream::next` meets its contract: what the part says is what the survey of it notes. Assumes nothing.
use borrow.Author.Rules.{rules}
use Rattle.stream.proofs.Inputs.{divides, next_found}
use Rattle.stream.proofs.next.Goals as goal

pub nonzero_div-dif : goal.nonzero_div-dif
nonzero_div-dif c = search (divides, rules)

pub nonzero_rem-dif : goal.nonzero_rem-dif
nonzero_rem-dif c = search (divides, rules)

pub returns : goal.returns
returns c = search (next_found, rules)
