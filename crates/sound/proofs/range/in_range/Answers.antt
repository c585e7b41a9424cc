-- `sound::range::in_range` meets its contract: the two tests are the definition's. Assumes nothing.
use mathlib.Core.Path.{refl}
use mir.Syntax.{w32}
use mir.ValLaws.{to_z-of_z}
use Rattle.rules_format.specs.Samples.{in_range}
use Rattle.sound.proofs.range.in_range.Goals as goal

pub returns : goal.returns
unfolding in_range
returns c = rw (to_z-of_z w32 _ c.ranges.x) refl
