use Prim.Native.Nat.{◌<◌}
use Rattle.try_kit.proofs.values.fill_numbers.Given as goal

abbrev pub invariant-loop-n : goal.invariant-loop-n
invariant-loop-n l = l.x < 65537
