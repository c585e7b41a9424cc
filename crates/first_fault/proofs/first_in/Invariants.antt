use mathlib.Core.Path.{◌≡◌}
use mathlib.Core.List.{[]}
use Prim.Native.Nat.{◌≤◌}
use Rattle.base.specs.Run.{run}
use Rattle.first_fault.specs.Asked.{stream_faults}
use Rattle.first_fault.proofs.first_in.Given as goal

abbrev pub invariant-loop-j : goal.invariant-loop-j
invariant-loop-j l = (run (stream_faults l.frame.bytes.now l.n) l.j ≡ []) × (l.n ≤ 12)
