-- `judges::read::Sequence::pack_in` meets its contract: five bytes of a block are five of the frame. Assumes nothing.
use Rattle.std.proofs.Common.{rules}
use Rattle.judges.proofs.Places.{pack_way}
use Rattle.judges.proofs.read.Sequence.pack_in.Goals as goal

pub returns : goal.returns
returns c = search (pack_way, rules)
