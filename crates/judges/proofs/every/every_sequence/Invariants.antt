use Rattle.std.proofs.Common.{◌≡◌}
use Rattle.base.specs.Below.{below}
use Rattle.judges.proofs.Turns.{every_in}
use Rattle.judges.proofs.every.every_sequence.Given as goal

abbrev pub invariant-loop-h : goal.invariant-loop-h
invariant-loop-h l = l.good ≡ below (every_in l.y l.frame l.test) l.h
