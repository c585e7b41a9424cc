-- `layout::systems::is_count` meets its contract: by the system's counts. Assumes nothing.
use mathlib.Core.Path.{refl}
use Rattle.layout.proofs.systems.is_count.Goals as goal

pub returns : goal.returns
returns c = rw c.counts-own.ensures refl
