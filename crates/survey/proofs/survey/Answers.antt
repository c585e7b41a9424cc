-- `survey::survey` meets its contract: the input is read to its end, and its text is made. Assumes nothing.
use borrow.Author.Rules.{rules}
use Rattle.survey.proofs.Printing.{input_surveyed}
use Rattle.survey.proofs.survey.Goals as goal

pub returns : goal.returns
returns c = search (input_surveyed, rules)
