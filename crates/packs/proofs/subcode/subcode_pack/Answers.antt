-- `packs::subcode::subcode_pack` meets its contract: kind by kind. Assumes nothing.
use mathlib.Core.Path.{refl}
use Rattle.packs.proofs.subcode.subcode_pack.Goals as goal

pub returns-in-NoPack : goal.returns-in-NoPack
returns-in-NoPack c = rw c.in-NoPack.is refl
