-- `writer::sequence::behind` meets its contract: by the place rule, there and back. Assumes nothing.
use borrow.Author.Rules.{rules}
use Rattle.writer.proofs.Whole.{behind_fits, behind_is}
use Rattle.writer.proofs.sequence.behind.Goals as goal

pub overflow_add-p : goal.overflow_add-p
overflow_add-p c = search (behind_fits, rules)

pub returns : goal.returns
returns c = search (behind_is, rules)
