-- `report::totals_line` meets its contract: two fields. Assumes nothing.
use borrow.Author.Rules.{rules}
use Rattle.report.proofs.Ways.{totals_printed}
use Rattle.report.proofs.totals_line.Goals as goal

pub returns : goal.returns
returns c = search (totals_printed, rules)
