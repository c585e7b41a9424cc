-- `writer::sequence::write_head` meets its contract: three parts, one after the other. Assumes nothing.
use borrow.Author.Rules.{rules}
use Rattle.writer.proofs.Whole.{head_done}
use Rattle.writer.proofs.sequence.write_head.Goals as goal

pub returns : goal.returns
returns c = search (head_done, rules)
