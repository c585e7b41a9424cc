use mathlib.Core.Path.{◌≡◌}
use Rattle.base.specs.Put.{turns}
use Rattle.replacer.specs.Turns.{block_turn}
use Rattle.replacer.proofs.replace_sequence.Given as goal

abbrev pub invariant-loop-a : goal.invariant-loop-a
invariant-loop-a l = l.part ≡ turns (block_turn l.y l.samples l.r) l.a l.initial.part
