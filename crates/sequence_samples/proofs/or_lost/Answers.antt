-- `sequence_samples::or_lost` meets its contract: by the flag. Assumes nothing.
use mathlib.Core.Path.{sym}
use Rattle.base.proofs.Picks.{pick_true, pick_false}
use Rattle.sequence_samples.proofs.or_lost.Goals as goal

pub returns-then-named : goal.returns-then-named
returns-then-named c = sym (pick_true _ _ c.if-named.true)

pub returns-else-named : goal.returns-else-named
returns-else-named c = sym (pick_false _ _ c.if-named.false)
