-- `refuse_check::refuse_known` meets its contract: one lemma for each row. Assumes nothing.
use borrow.Author.Rules.{rules}
use Rattle.layout.proofs.Saying.{never_zero, passed_on}
use Rattle.refuse_check.proofs.Ways.{checked_fault, checked_21, checked_22, checked_0}
use Rattle.refuse_check.proofs.refuse_known.Goals as goal

pub returns-in_err-first_fault : goal.returns-in_err-first_fault
returns-in_err-first_fault c = passed_on _ _ c.from_residual.ensures.1 (checked_fault _ _ _ c.in_err-first_fault.ensures (never_zero _))

pub returns-then-not-every_sequence : goal.returns-then-not-every_sequence
returns-then-not-every_sequence c = search (checked_21, rules)

pub returns-then-not-every_sequence-2 : goal.returns-then-not-every_sequence-2
returns-then-not-every_sequence-2 c = search (checked_22, rules)

pub returns : goal.returns
returns c = search (checked_0, rules)
