-- `judges::every::first_in_half` meets its contract: s times a number below 2. Assumes nothing.
use Rattle.std.proofs.Common.{rules}
use Rattle.judges.proofs.Places.{first_way}
use Rattle.judges.proofs.every.first_in_half.Goals as goal

pub returns : goal.returns
returns c = search (first_way, rules)
