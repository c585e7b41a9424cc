-- `layout::places::entry_of` meets its contract: by what the section is. Assumes nothing.
use mathlib.Core.Path.{refl}
use Rattle.rules_format.specs.Judging.{entry_of}
use Rattle.layout.proofs.places.entry_of.Goals as goal

pub returns : goal.returns
unfolding entry_of
returns c = rw c.section_of.ensures refl
