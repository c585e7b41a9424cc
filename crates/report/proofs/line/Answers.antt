-- `report::line` meets its contract: one law for each way out. Assumes nothing.
use borrow.Author.Rules.{rules}
use Rattle.report.proofs.Ways.{line_refusal, line_after_refusal, line_record, line_totals, line_after_totals}
use Rattle.report.proofs.line.Goals as goal

pub returns-then-i-eq0 : goal.returns-then-i-eq0
returns-then-i-eq0 c = search (line_refusal, rules)

pub returns-then-s-ne0 : goal.returns-then-s-ne0
returns-then-s-ne0 c = search (line_after_refusal, rules)

pub returns-then-i-s : goal.returns-then-i-s
returns-then-i-s c = search (line_record, rules)

pub returns-then-i-s-2 : goal.returns-then-i-s-2
returns-then-i-s-2 c = search (line_totals, rules)

pub returns : goal.returns
returns c = search (line_after_totals, rules)
