-- `sequence_samples::take_sequence` meets its contract: the nine blocks, or none. Assumes nothing.
use borrow.Author.Rules.{rules}
use Rattle.sequence_samples.proofs.Ways.{sequence_asked, sequence_taken, sequence_left}
use Rattle.sequence_samples.proofs.take_sequence.Goals as goal

pub take_part-requires : goal.take_part-requires
take_part-requires c = search (sequence_asked, rules)

pub returns-then-fits : goal.returns-then-fits
returns-then-fits c = search (sequence_taken, rules)

pub returns-else-fits : goal.returns-else-fits
returns-else-fits c = search (sequence_left, rules)
