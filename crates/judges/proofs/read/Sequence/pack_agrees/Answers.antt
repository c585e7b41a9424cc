-- `judges::read::Sequence::pack_agrees` meets its contract: kind by kind. Assumes nothing.
use Rattle.std.proofs.Common.{rules}
use Rattle.rules_reads.specs.Time.{same_pack}
use Rattle.judges.proofs.Ways.{time_arm, group_arm, none_arm}
use Rattle.judges.proofs.read.Sequence.pack_agrees.Goals as goal

pub returns-in-TimeCode : goal.returns-in-TimeCode
unfolding same_pack
returns-in-TimeCode c = search (time_arm, rules)

pub returns-in-BinaryGroup : goal.returns-in-BinaryGroup
unfolding same_pack
returns-in-BinaryGroup c = search (group_arm, rules)

pub returns-in-NoPack : goal.returns-in-NoPack
returns-in-NoPack c = search (none_arm, rules)
