-- `first_fault::first_in` meets its contract: no sequence below j of the stream has a fault. Assumes nothing.
use native.Mathlib.Omega.{arith}
use borrow.Author.Rules.{rules}
use Rattle.base.proofs.Runs.{run_zero}
use Rattle.rules_format.proofs.Systems.{sequences_le}
use Rattle.rules_surveys.specs.FaultLists.{frame_faults}
use Rattle.layout.proofs.Saying.{never_zero, handed_on}
use Rattle.first_fault.specs.Asked.{FirstFaultIs}
use Rattle.first_fault.proofs.Ways.{stream_asked, stream_clean, stream_ends, streams_clean}
use Rattle.first_fault.proofs.first_in.Goals as goal

pub loop-j-init : goal.loop-j-init
loop-j-init c = (run_zero _, omega (arith, sequences_le c.args.frame.now.system))

pub first_sequence-requires : goal.first_sequence-requires
first_sequence-requires c = search (stream_asked, rules)

pub returns-in_err-first_sequence : goal.returns-in_err-first_sequence
returns-in_err-first_sequence c = handed_on (λ k. FirstFaultIs k (frame_faults c.args.frame.now.system c.args.frame.now.bytes.now)) _ c.in_err-first_sequence.field-0.0 c.from_residual.ensures.1 (search (stream_ends, never_zero, c.in_err-first_sequence.ensures, rules))

pub loop-j-preserved : goal.loop-j-preserved
loop-j-preserved c = (search (stream_clean, rules), omega arith)

pub returns : goal.returns
returns c = search (streams_clean, rules)
