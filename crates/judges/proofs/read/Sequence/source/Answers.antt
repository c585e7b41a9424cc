-- `judges::read::Sequence::source` meets its contract: by the place of AS. Assumes nothing.
use Rattle.std.proofs.Common.{rules}
use Rattle.judges.proofs.Places.{as_asked, as_way}
use Rattle.judges.proofs.read.Sequence.source.Goals as goal

pub pack_in-requires : goal.pack_in-requires
pack_in-requires c = search (as_asked, rules)

pub returns : goal.returns
returns c = search (as_way, rules)
