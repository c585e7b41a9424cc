use mathlib.Core.List.{List}
use Prim.Native.Nat.{ℕ}
use Rattle.base.specs.Run.{Wide}
use Rattle.base.proofs.Filling.{Filled}
use Rattle.writer.specs.Asked.{PutsBlocks}
use Rattle.writer.proofs.sequence.write_blocks.Given as goal

abbrev pub invariant-loop-k : goal.invariant-loop-k
invariant-loop-k g l = (bytes : ℕ → List ℕ) → Wide 80 bytes → PutsBlocks (goal.F-post g l.fn.put) bytes l.count → Filled 80 bytes l.k l.initial.part l.part
