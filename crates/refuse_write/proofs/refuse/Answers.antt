-- `refuse_write::refuse` meets its contract: each number where its row is the first that holds. Assumes nothing.
use borrow.Author.Rules.{rules}
use Rattle.layout.proofs.Saying.{passed_on}
use Rattle.refuse_write.proofs.Ways.{write_stops, way_3, way_4, way_31, way_32, way_0}
use Rattle.refuse_write.proofs.refuse.Goals as goal

pub returns-in_err-y-clause-said : goal.returns-in_err-y-clause-said
returns-in_err-y-clause-said c = passed_on _ _ c.from_residual.ensures.1 (write_stops _ _ _ _ c.in_err-y.ensures.said)

pub returns-then-not-counted-clause-said : goal.returns-then-not-counted-clause-said
returns-then-not-counted-clause-said c = search (way_3, c.in_ok-y.ensures.known, rules)

pub returns-then-not-lengths-clause-said : goal.returns-then-not-lengths-clause-said
returns-then-not-lengths-clause-said c = search (way_4, c.in_ok-y.ensures.known, rules)

pub returns-then-not-all_in_range-clause-said : goal.returns-then-not-all_in_range-clause-said
returns-then-not-all_in_range-clause-said c = search (way_31, c.in_ok-y.ensures.known, rules)

pub returns-then-not-time_taken-clause-said : goal.returns-then-not-time_taken-clause-said
returns-then-not-time_taken-clause-said c = search (way_32, c.in_ok-y.ensures.known, rules)

pub returns-clause-said : goal.returns-clause-said
returns-clause-said c = search (way_0, c.in_ok-y.ensures.known, rules)
