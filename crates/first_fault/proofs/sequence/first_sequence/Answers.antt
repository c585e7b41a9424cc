-- `first_fault::sequence::first_sequence` meets its contract. Assumes nothing.
use borrow.Author.Rules.{rules}
use Rattle.first_fault.proofs.Ends.{clear_none}
use Rattle.first_fault.proofs.sequence.first_sequence.Goals as goal

pub returns-then-clean_part : goal.returns-then-clean_part
returns-then-clean_part c = search (clear_none, rules)
