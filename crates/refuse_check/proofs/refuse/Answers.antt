-- `refuse_check::refuse` meets its contract: one lemma for each way out. Assumes nothing.
use borrow.Author.Rules.{rules}
use Rattle.layout.proofs.Saying.{handed_on}
use Rattle.rules_reads.specs.Check.{Checked}
use Rattle.refuse_check.proofs.Ways.{check_stops, check_through}
use Rattle.refuse_check.proofs.refuse.Goals as goal

pub returns-in_err-y-clause-said : goal.returns-in_err-y-clause-said
returns-in_err-y-clause-said c = handed_on (Checked _ _) _ _ c.from_residual.ensures.1 (check_stops _ _ _ c.in_err-y.ensures.said)

pub returns-in_err-refuse_known-clause-said : goal.returns-in_err-refuse_known-clause-said
returns-in_err-refuse_known-clause-said c = handed_on (Checked _ _) _ _ c.from_residual-in_err-refuse_known.ensures.1 (check_through _ _ _ c.in_ok-y.ensures.known _ c.in_err-refuse_known.ensures)

pub returns-clause-said : goal.returns-clause-said
returns-clause-said c = check_through _ _ _ c.in_ok-y.ensures.known _ c.in_ok-refuse_known.ensures
