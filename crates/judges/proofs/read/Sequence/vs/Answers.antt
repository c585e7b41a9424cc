-- `judges::read::Sequence::vs` meets its contract: by the place of VS. Assumes nothing.
use Rattle.std.proofs.Common.{rules}
use Rattle.judges.proofs.Places.{vs_asked, vs_way}
use Rattle.judges.proofs.read.Sequence.vs.Goals as goal

pub pack_in-requires : goal.pack_in-requires
pack_in-requires c = search (vs_asked, rules)

pub returns : goal.returns
returns c = search (vs_way, rules)
