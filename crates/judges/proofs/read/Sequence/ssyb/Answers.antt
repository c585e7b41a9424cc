-- `judges::read::Sequence::ssyb` meets its contract: by the place of the SSYB's block. Assumes nothing.
use Rattle.std.proofs.Common.{rules}
use Rattle.judges.proofs.Places.{ssyb_asked, ssyb_way}
use Rattle.judges.proofs.read.Sequence.ssyb.Goals as goal

pub pack_in-requires : goal.pack_in-requires
pack_in-requires c = search (ssyb_asked, rules)

pub returns : goal.returns
returns c = search (ssyb_way, rules)
