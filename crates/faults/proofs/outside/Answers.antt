-- `faults::outside` meets its contract: by the system's sequences. Assumes nothing.
use mathlib.Core.Path.{refl}
use Rattle.faults.proofs.outside.Goals as goal

pub returns : goal.returns
returns c = rw c.sequences.ensures refl
