use mathlib.Core.Path.{◌≡◌}
use mathlib.Core.List.{[]}
use Rattle.base.specs.Run.{run}
use Rattle.rules_surveys.specs.FaultLists.{place_faults}
use Rattle.first_fault.proofs.sequence.first_part.Given as goal

abbrev pub invariant-loop-p : goal.invariant-loop-p
invariant-loop-p l = run (place_faults l.part l.dif.channel l.dif.sequence) l.p ≡ []
