-- `refuse_write::lengths_ok` meets its contract: the four lengths. Assumes nothing.
use mathlib.Core.Path.{refl}
use Rattle.refuse_write.proofs.lengths_ok.Goals as goal

pub returns : goal.returns
returns c = rw c.macroblocks.ensures refl
