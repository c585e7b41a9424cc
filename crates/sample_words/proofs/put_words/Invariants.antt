use mathlib.Core.Path.{◌≡◌}
use Prim.Native.Nat.{◌+◌, ◌*◌}
use Rattle.base.proofs.Filling.{Filled}
use Rattle.sample_words.specs.Words.{word_pair}
use Rattle.sample_words.proofs.put_words.Given as goal

abbrev pub invariant-loop-w : goal.invariant-loop-w
invariant-loop-w l = Filled 2 (word_pair l.samples l.first l.step) l.w l.initial.part l.part × (l.t ≡ l.step * l.w + l.first)
