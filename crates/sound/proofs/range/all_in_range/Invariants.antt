use mathlib.Core.Path.{◌≡◌}
use mathlib.Core.Bool.{◌&&◌}
use lib.ListN.{drop}
use Rattle.rules_format.specs.Samples.{all_in_range}
use Rattle.sound.proofs.range.all_in_range.Given as goal

abbrev pub invariant-loop-x : goal.invariant-loop-x
invariant-loop-x l = l.good && all_in_range (drop l.x-index l.numbers) ≡ all_in_range l.numbers
