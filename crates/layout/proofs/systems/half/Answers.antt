-- `layout::systems::half` meets its contract: n/2. Assumes nothing.
use mathlib.Core.Path.{refl}
use Rattle.rules_format.specs.Systems.{half_of}
use Rattle.layout.proofs.systems.half.Goals as goal

pub returns : goal.returns
unfolding half_of
returns c = rw c.sequences.ensures refl
