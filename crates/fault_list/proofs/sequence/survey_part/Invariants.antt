use Rattle.base.specs.Run.{run}
use Rattle.rules_surveys.specs.FaultLists.{place_faults}
use Rattle.fault_list.specs.Listed.{NotedIn}
use Rattle.fault_list.proofs.sequence.survey_part.Given as goal

abbrev pub invariant-loop-p : goal.invariant-loop-p
invariant-loop-p l = NotedIn l.initial.list (run (place_faults l.part l.dif.channel l.dif.sequence) l.p) l.list
