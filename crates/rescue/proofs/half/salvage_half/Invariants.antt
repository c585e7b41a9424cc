use mathlib.Core.Path.{◌≡◌}
use Prim.Native.Nat.{◌+◌, ◌*◌}
use Rattle.base.specs.Run.{run}
use Rattle.rules_format.specs.Systems.{half_of}
use Rattle.fault_list.specs.Listed.{NotedIn}
use Rattle.sequence_samples.specs.Taken.{Between}
use Rattle.rescue.specs.Taken.{held_sample, rank_faults}
use Rattle.rescue.proofs.half.salvage_half.Given as goal

abbrev pub invariant-loop-r : goal.invariant-loop-r
invariant-loop-r l = Between (half_of l.frame.system) 0 (9 * l.r) (held_sample l.frame.system l.frame.bytes.now (l.i + 1)) l.initial.samples l.samples × NotedIn l.initial.list (run (rank_faults l.frame.system l.frame.bytes.now l.i) l.r) l.list × (l.ranks ≡ half_of l.frame.system)
