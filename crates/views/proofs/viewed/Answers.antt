-- `views::viewed` meets its contract: one lemma for each way out. Assumes nothing.
use borrow.Author.Rules.{rules}
use Rattle.layout.proofs.Saying.{passed_on}
use Rattle.views.proofs.Ways.{view_stops, view_outside, view_in, view_within, view_faulty, view_found}
use Rattle.views.proofs.viewed.Goals as goal

pub returns-in_err-y-clause-said : goal.returns-in_err-y-clause-said
returns-in_err-y-clause-said c = passed_on _ _ c.from_residual.ensures.1 (view_stops _ _ _ _ _ _ c.in_err-y.ensures.said)

pub returns-then-out-clause-said : goal.returns-then-out-clause-said
returns-then-out-clause-said c = search (view_outside, c.in_ok-y.ensures.known, rules)

pub block_start-at-requires : goal.block_start-at-requires
block_start-at-requires c = search (view_in, rules)

pub slice_bounds-fault_at-end : goal.slice_bounds-fault_at-end
slice_bounds-fault_at-end c = search (view_within, c.in_ok-y.ensures.known, rules)

pub returns-in_err-fault_at-clause-said : goal.returns-in_err-fault_at-clause-said
returns-in_err-fault_at-clause-said c =
    passed_on _ _ c.from_residual-in_err-fault_at.ensures.1 (search (view_faulty, c.in_ok-y.ensures.known, c.in_err-fault_at.ensures, rules))

pub returns-clause-said : goal.returns-clause-said
returns-clause-said c = search (view_faulty, c.in_ok-y.ensures.known, c.in_ok-fault_at.ensures, rules)

pub returns-clause-lies : goal.returns-clause-lies
returns-clause-lies c = search (view_found, c.in_ok-y.ensures.known, c.in_ok-fault_at.ensures, rules)
