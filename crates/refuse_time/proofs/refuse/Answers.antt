-- `refuse_time::refuse` meets its contract: one lemma for each way out. Assumes nothing.
use Rattle.layout.proofs.Saying.{passed_on}
use Rattle.refuse_time.proofs.Ways.{time_stops, time_check_stops, time_through}
use Rattle.refuse_time.proofs.refuse.Goals as goal

pub returns-in_err-y-clause-said : goal.returns-in_err-y-clause-said
returns-in_err-y-clause-said c = passed_on _ _ c.from_residual.ensures.1 (time_stops _ _ _ c.in_err-y.ensures.said)

pub returns-in_err-refuse_known-clause-said : goal.returns-in_err-refuse_known-clause-said
returns-in_err-refuse_known-clause-said c =
    passed_on _ _ c.from_residual-in_err-refuse_known.ensures.1 (time_check_stops _ _ _ c.in_ok-y.ensures.known _ c.in_err-refuse_known.ensures)

pub returns-in_err-refuse_clock-clause-said : goal.returns-in_err-refuse_clock-clause-said
returns-in_err-refuse_clock-clause-said c =
    passed_on _ _ c.from_residual-in_err-refuse_clock.ensures.1 (time_through _ _ _ c.in_ok-y.ensures.known c.in_ok-refuse_known.ensures _ c.in_err-refuse_clock.ensures)

pub returns-clause-said : goal.returns-clause-said
returns-clause-said c = time_through _ _ _ c.in_ok-y.ensures.known c.in_ok-refuse_known.ensures _ c.in_ok-refuse_clock.ensures
