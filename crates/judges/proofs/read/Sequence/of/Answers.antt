-- `judges::read::Sequence::of` meets its contract: where the sequence starts. Assumes nothing.
use Rattle.std.proofs.Common.{rules}
use Rattle.judges.proofs.Places.{start_is}
use Rattle.judges.proofs.read.Sequence.of.Goals as goal

pub returns-clause-bytes : goal.returns-clause-bytes
returns-clause-bytes c = search (start_is, rules)
