-- `writer::sequence::start` meets its contract: by the place rule. Assumes nothing.
use borrow.Author.Rules.{rules}
use Rattle.writer.proofs.Whole.{start_is}
use Rattle.writer.proofs.sequence.start.Goals as goal

pub returns : goal.returns
returns c = search (start_is, rules)
