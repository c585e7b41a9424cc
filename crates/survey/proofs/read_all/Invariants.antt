use Rattle.survey.specs.Program.{Going}
use Rattle.survey.proofs.read_all.Given as goal

abbrev pub invariant-loop : goal.invariant-loop
invariant-loop l = Going l.initial.list l.buf l.list l.r l.counter
