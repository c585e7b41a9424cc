-- `surveys::sequence::survey_sequence` meets its contract: one lemma for each way out. Assumes nothing.
use borrow.Author.Rules.{rules}
use Rattle.surveys.proofs.Ways.{sequence_stopped, sequence_surveyed}
use Rattle.surveys.proofs.sequence.survey_sequence.Goals as goal

pub returns-in-Err : goal.returns-in-Err
returns-in-Err c = search (sequence_stopped, c.in-Err.ensures.said, rules)

pub returns : goal.returns
returns c = search (sequence_surveyed, c.in-Ok.ensures.known, rules)
