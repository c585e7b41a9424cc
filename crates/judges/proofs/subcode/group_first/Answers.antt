-- `judges::subcode::group_first` meets its contract: the frame starts with DIF channel 0, sequence 0. Assumes nothing.
use Rattle.std.proofs.Common.{rules}
use Rattle.judges.proofs.Ways.{group_way}
use Rattle.judges.proofs.subcode.group_first.Goals as goal

pub returns : goal.returns
returns c = search (group_way, rules)
