-- `faults::fault_at` meets its contract: by the ID's answer and the place's entry. Assumes nothing.
use mathlib.Core.Path.{refl, ◌∙◌}
use Rattle.rules_format.specs.Faults.{fault_at}
use Rattle.faults.proofs.fault_at.Goals as goal

pub returns : goal.returns
unfolding fault_at
returns c = c.fault_of.ensures ∙ rw (c.read_block.ensures, c.entry_at.ensures) refl
