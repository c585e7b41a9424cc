-- `fault_list::list::answered` meets its contract: by what is kept. Assumes nothing.
use mathlib.Core.Path.{refl}
use Rattle.fault_list.proofs.list.answered.Goals as goal

pub returns : goal.returns
returns c = rw c.kept.ensures refl
