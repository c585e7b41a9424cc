-- `judges::every::every_in_half` meets its contract: by the channel's half. Assumes nothing.
use Rattle.std.proofs.Common.{rules}
use Rattle.judges.proofs.Turns.{half_asked, half_done}
use Rattle.judges.proofs.every.every_in_half.Goals as goal

pub every_from-requires : goal.every_from-requires
every_from-requires c = search (half_asked, rules)

pub returns : goal.returns
returns c = search (half_done, rules)
