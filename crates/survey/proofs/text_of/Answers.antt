-- `survey::text_of` meets its contract: the answer is the reading's. Assumes nothing.
use borrow.Author.Rules.{rules}
use Rattle.survey.proofs.Printing.{text_said}
use Rattle.survey.proofs.text_of.Goals as goal

pub returns : goal.returns
returns c = search (text_said, rules)
