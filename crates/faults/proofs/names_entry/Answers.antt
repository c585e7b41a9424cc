-- `faults::names_entry` meets its contract: its fault is 0. Assumes nothing.
use mathlib.Core.Path.{refl, ◌∙◌}
use Rattle.layout.proofs.Saying.{ok_said}
use Rattle.faults.proofs.names_entry.Goals as goal

pub returns : goal.returns
returns c = c.is_ok.ensures.value ∙ ok_said c.fault_of.result ∙ rw (c.fault_of.ensures, c.read_block.ensures) refl
