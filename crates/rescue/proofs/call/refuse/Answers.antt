-- `rescue::call::refuse` meets its contract: one lemma for each way out. Assumes nothing.
use borrow.Author.Rules.{rules}
use Rattle.layout.proofs.Saying.{passed_on}
use Rattle.rescue.proofs.Whole.{salvage_stops, wrong_room, right_room, lent_known}
use Rattle.rescue.proofs.call.refuse.Goals as goal

pub returns-in_err-y-clause-said : goal.returns-in_err-y-clause-said
returns-in_err-y-clause-said c = passed_on _ _ c.from_residual.ensures.1 (salvage_stops _ _ _ _ c.in_err-y.ensures.said)

pub returns-then-samples-positions-clause-said : goal.returns-then-samples-positions-clause-said
returns-then-samples-positions-clause-said c = search (wrong_room, c.in_ok-y.ensures.known, rules)

pub returns-clause-said : goal.returns-clause-said
returns-clause-said c = search (right_room, c.in_ok-y.ensures.known, rules)

pub returns-clause-known : goal.returns-clause-known
returns-clause-known c = search (lent_known, c.in_ok-y.ensures.known, rules)
