use Rattle.base.specs.Run.{run}
use Rattle.rules_surveys.specs.FaultLists.{channel_faults}
use Rattle.fault_list.specs.Listed.{NotedIn}
use Rattle.surveys.proofs.frame.survey_all.Given as goal

abbrev pub invariant-loop-h : goal.invariant-loop-h
invariant-loop-h l = NotedIn l.initial.list (run (channel_faults l.frame.system l.frame.bytes.now) l.h) l.list
