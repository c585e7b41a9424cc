-- `judges::every::first_as` meets its contract: that of the first sequence of its half. Assumes nothing.
use Rattle.std.proofs.Common.{rules}
use Rattle.judges.proofs.Ways.{as_way}
use Rattle.judges.proofs.every.first_as.Goals as goal

pub returns : goal.returns
returns c = search (as_way, rules)
