-- `refuse_time::refuse_clock` meets its contract: one lemma for each row. Assumes nothing.
use borrow.Author.Rules.{rules}
use Rattle.refuse_time.proofs.Ways.{clock_23, clock_26, clock_27, clock_0}
use Rattle.refuse_time.proofs.refuse_clock.Goals as goal

pub returns-then-not-every_sequence : goal.returns-then-not-every_sequence
returns-then-not-every_sequence c = search (clock_23, rules)

pub returns-then-not-time_ok-group_ok : goal.returns-then-not-time_ok-group_ok
returns-then-not-time_ok-group_ok c = search (clock_26, rules)

pub returns-then-not-every_sequence-2 : goal.returns-then-not-every_sequence-2
returns-then-not-every_sequence-2 c = search (clock_27, rules)

pub returns : goal.returns
returns c = search (clock_0, rules)
