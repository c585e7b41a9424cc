-- `report::refusal_line` meets its contract: one field. Assumes nothing.
use borrow.Author.Rules.{rules}
use Rattle.report.proofs.Ways.{refusal_printed}
use Rattle.report.proofs.refusal_line.Goals as goal

pub returns : goal.returns
returns c = search (refusal_printed, rules)
