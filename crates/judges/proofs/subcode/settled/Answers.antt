-- `judges::subcode::settled` meets its contract: one lemma for each rate. Assumes nothing.
use Rattle.std.proofs.Common.{rules}
use Rattle.judges.proofs.Ways.{settled_50, settled_60}
use Rattle.judges.proofs.subcode.settled.Goals as goal

pub returns-then-rate-eq1 : goal.returns-then-rate-eq1
returns-then-rate-eq1 c = search (settled_50, rules)

pub returns-else-rate-eq1 : goal.returns-else-rate-eq1
returns-else-rate-eq1 c = search (settled_60, rules)
