-- The printed table is the rule's: one equation, which antt computes over the 150 entries. Assumes nothing.
use mathlib.Core.Path.{refl}
use Rattle.base.specs.Run.{run, tab}
use Rattle.rules_format.specs.Places.{places, entry_at}
use Rattle.rules_format.specs.Judging.{printed_places}
use Rattle.layout.proofs.places.printed_places.Goals as goal

pub returns : goal.returns
unfolding printed_places entry_at places run tab
returns c = refl
