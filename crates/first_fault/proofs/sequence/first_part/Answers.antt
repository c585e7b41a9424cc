-- `first_fault::sequence::first_part` meets its contract: no place below p has a fault. Assumes nothing.
use borrow.Author.Rules.{rules}
use Rattle.base.proofs.Runs.{run_zero}
use Rattle.rules_surveys.specs.FaultLists.{sequence_faults}
use Rattle.layout.proofs.Saying.{never_zero, handed_on}
use Rattle.first_fault.specs.Asked.{FirstFaultIs}
use Rattle.first_fault.proofs.Ends.{place_clean, place_ends, places_clean}
use Rattle.first_fault.proofs.sequence.first_part.Goals as goal

pub loop-p-init : goal.loop-p-init
loop-p-init c = run_zero _

pub returns-in_err-fault_at : goal.returns-in_err-fault_at
returns-in_err-fault_at c = handed_on (λ k. FirstFaultIs k (sequence_faults c.args.part.now c.args.dif.channel c.args.dif.sequence)) _ c.in_err-fault_at.field-0.0 c.from_residual.ensures.1 (search (place_ends, never_zero, c.in_err-fault_at.ensures, rules))

pub loop-p-preserved : goal.loop-p-preserved
loop-p-preserved c = search (place_clean, rules)

pub returns : goal.returns
returns c = search (places_clean, rules)
