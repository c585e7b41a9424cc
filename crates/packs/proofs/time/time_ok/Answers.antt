-- `packs::time::time_ok` meets its contract: by the clock. Assumes nothing.
use mathlib.Core.Path.{refl}
use Rattle.packs.proofs.time.time_ok.Goals as goal

pub returns : goal.returns
returns c = rw c.clock_ok.ensures refl
