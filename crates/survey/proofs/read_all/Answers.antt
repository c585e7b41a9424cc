-- `survey::read_all` meets its contract: the loop has read whole sequences, and what is known is what they say. Assumes nothing.
use borrow.Author.Rules.{rules}
use Rattle.survey.proofs.Reading.{going_start}
use Rattle.survey.proofs.read_all.Goals as goal

pub loop-init : goal.loop-init
loop-init c = search (going_start, rules)
