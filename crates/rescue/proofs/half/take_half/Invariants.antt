use mathlib.Core.Path.{◌≡◌}
use Prim.Native.Nat.{◌+◌, ◌*◌}
use Rattle.rules_format.specs.Systems.{half_of}
use Rattle.sequence_samples.specs.Taken.{Between}
use Rattle.rescue.specs.Taken.{held_sample}
use Rattle.rescue.proofs.half.take_half.Given as goal

abbrev pub invariant-loop-r : goal.invariant-loop-r
invariant-loop-r l = Between (half_of l.frame.system) 0 (9 * l.r) (held_sample l.frame.system l.frame.bytes.now (l.i + 1)) l.initial.samples l.samples × (l.r-end ≡ half_of l.frame.system)
