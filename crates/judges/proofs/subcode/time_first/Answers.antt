-- `judges::subcode::time_first` meets its contract: the frame starts with DIF channel 0, sequence 0. Assumes nothing.
use Rattle.std.proofs.Common.{rules}
use Rattle.judges.proofs.Ways.{time_way}
use Rattle.judges.proofs.subcode.time_first.Goals as goal

pub returns : goal.returns
returns c = search (time_way, rules)
