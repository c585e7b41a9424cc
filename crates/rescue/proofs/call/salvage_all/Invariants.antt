use mathlib.Core.Path.{◌≡◌}
use lib.ListN.{length}
use Rattle.base.specs.Run.{run}
use Rattle.base.proofs.Filling.{Filled}
use Rattle.fault_list.specs.Listed.{NotedIn}
use Rattle.rescue.specs.Taken.{half_samples, half_faults}
use Rattle.rescue.proofs.call.salvage_all.Given as goal

abbrev pub invariant-loop-i : goal.invariant-loop-i
invariant-loop-i l = Filled l.size (half_samples l.frame.system l.frame.bytes.now) l.i l.initial.samples l.samples × NotedIn l.initial.list (run (half_faults l.frame.system l.frame.bytes.now) l.i) l.list × (length l.samples ≡ length l.initial.samples)
