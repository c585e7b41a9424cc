-- `layout::refusals::system_of_frame` meets its contract: one lemma for each way out. Assumes nothing.
use borrow.Author.Rules.{rules}
use Rattle.std.proofs.Common.{arith}
use Rattle.base.specs.Calls.{first_of}
use Rattle.base.specs.Pick.{pick}
use Rattle.layout.proofs.Saying.{passed_on}
use Rattle.layout.proofs.refusals.system_of_frame.Goals as goal

pub returns-in_err-y-clause-said : goal.returns-in_err-y-clause-said
unfolding first_of pick
returns-in_err-y-clause-said c = passed_on _ _ c.from_residual.ensures.1 (grind arith)

pub returns-then-bytes-frame_bytes-clause-said : goal.returns-then-bytes-frame_bytes-clause-said
unfolding first_of pick
returns-then-bytes-frame_bytes-clause-said c = search rules

pub returns-clause-said : goal.returns-clause-said
unfolding first_of pick
returns-clause-said c = search rules
