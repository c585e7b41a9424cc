use mathlib.Core.Path.{◌≡◌}
use Rattle.base.specs.Run.{run}
use Rattle.rules_surveys.specs.FaultLists.{part_faults}
use Rattle.fault_list.specs.Listed.{NotedIn}
use Rattle.rules_format.specs.Systems.{sequences_of}
use Rattle.surveys.proofs.frame.survey_channel.Given as goal

abbrev pub invariant-loop-q : goal.invariant-loop-q
invariant-loop-q l = (l.q-end ≡ sequences_of l.frame.system) × NotedIn l.initial.list (run (part_faults l.frame.system l.frame.bytes.now l.h) l.q) l.list
