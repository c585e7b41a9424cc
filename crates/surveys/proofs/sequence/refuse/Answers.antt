-- `surveys::sequence::refuse` meets its contract: one lemma for each way out. Assumes nothing.
use Rattle.std.proofs.Common.{arith}
use borrow.Author.Rules.{rules}
use Rattle.base.specs.Calls.{first_of}
use Rattle.base.specs.Pick.{pick}
use Rattle.rules_surveys.specs.Survey.{sequence_number}
use Rattle.layout.proofs.Saying.{passed_on}
use Rattle.surveys.proofs.Ways.{sequence_outside, sequence_wrong_length, sequence_said, sequence_known}
use Rattle.surveys.proofs.sequence.refuse.Goals as goal

pub returns-in_err-y-clause-said : goal.returns-in_err-y-clause-said
unfolding sequence_number first_of pick
returns-in_err-y-clause-said c = passed_on _ _ c.from_residual.ensures.1 (grind arith)

pub returns-then-out-clause-said : goal.returns-then-out-clause-said
returns-then-out-clause-said c = search (sequence_outside, c.in_ok-y.ensures, rules)

pub returns-then-bytes-ne-SEQUENCE-clause-said : goal.returns-then-bytes-ne-SEQUENCE-clause-said
returns-then-bytes-ne-SEQUENCE-clause-said c = search (sequence_wrong_length, c.in_ok-y.ensures, rules)

pub returns-clause-said : goal.returns-clause-said
returns-clause-said c = search (sequence_said, c.in_ok-y.ensures, rules)

pub returns-clause-known : goal.returns-clause-known
returns-clause-known c = search (sequence_known, c.in_ok-y.ensures, rules)
