use Prim.Native.Nat.{◌+◌, ◌*◌}
use Rattle.rules_format.specs.Sound.{rank_at}
use Rattle.rules_format.specs.Systems.{half_of}
use Rattle.sequence_samples.specs.Taken.{held_part, Between}
use Rattle.sequence_samples.proofs.take_part.Given as goal

abbrev pub invariant-loop-a : goal.invariant-loop-a
invariant-loop-a l = Between (half_of l.y) (9 * rank_at (half_of l.y) l.dif.sequence) (9 * rank_at (half_of l.y) l.dif.sequence + l.a) (held_part (half_of l.y) l.part l.dif.channel l.dif.sequence) l.initial.samples l.samples
