use Prim.Native.Nat.{◌<◌}
use Rattle.try_kit.proofs.values.fill_rubbish.Given as goal

abbrev pub invariant-loop-byte : goal.invariant-loop-byte
invariant-loop-byte l = l.x < 65537
