use Rattle.report.specs.Printed.{Texting}
use Rattle.report.proofs.text.Given as goal

abbrev pub invariant-loop-i : goal.invariant-loop-i
invariant-loop-i l = Texting l.s l.list l.initial.out l.out l.at l.i
