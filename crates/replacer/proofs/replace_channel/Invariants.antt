use mathlib.Core.Path.{◌≡◌}
use Rattle.base.specs.Put.{turns}
use Rattle.replacer.specs.Turns.{rank_turn}
use Rattle.replacer.proofs.replace_channel.Given as goal

abbrev pub invariant-loop-r : goal.invariant-loop-r
invariant-loop-r l = l.frame ≡ turns (rank_turn l.y l.i l.samples) l.r l.initial.frame
