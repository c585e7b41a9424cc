-- `judges::read::Sequence::header_byte` meets its contract: a byte of the header is one of the frame, and past its 80 there is none. Assumes nothing.
use Rattle.std.proofs.Common.{rules}
use Rattle.judges.proofs.Places.{header_way, header_past}
use Rattle.judges.proofs.read.Sequence.header_byte.Goals as goal

pub returns-then-i-lt-BLOCK : goal.returns-then-i-lt-BLOCK
returns-then-i-lt-BLOCK c = search (header_way, rules)

pub returns : goal.returns
returns c = search (header_past, rules)
