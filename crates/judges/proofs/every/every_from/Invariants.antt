use Rattle.std.proofs.Common.{◌≡◌}
use Rattle.rules_reads.specs.Check.{every_from}
use Rattle.judges.specs.Tests.{test_of}
use Rattle.judges.proofs.every.every_from.Given as goal

abbrev pub invariant-loop-r : goal.invariant-loop-r
invariant-loop-r l = l.good ≡ every_from l.y l.frame l.h l.q l.r (test_of l.y l.test)
