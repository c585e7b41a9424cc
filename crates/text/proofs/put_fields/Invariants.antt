use Rattle.text.specs.Lines.{Fielding}
use Rattle.text.proofs.put_fields.Given as goal

abbrev pub invariant-loop-x : goal.invariant-loop-x
invariant-loop-x l = Fielding l.fields l.at l.initial.out l.out l.end l.x-index
