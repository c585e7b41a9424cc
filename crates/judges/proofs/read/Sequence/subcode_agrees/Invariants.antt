use Rattle.std.proofs.Common.{◌≡◌}
use Rattle.base.specs.Below.{below}
use Rattle.judges.specs.Asked.{sequence_from}
use Rattle.judges.proofs.Turns.{agrees_at}
use Rattle.judges.proofs.read.Sequence.subcode_agrees.Given as goal

abbrev pub invariant-loop-k : goal.invariant-loop-k
invariant-loop-k l = l.good ≡ below (agrees_at l.self.system l.said.time l.said.group l.first (sequence_from l.self.frame.now l.self.start)) l.k
