-- `picture::eleven_carries` meets its contract: each way out. Assumes nothing.
use Rattle.std.proofs.Common.{rules}
use Rattle.picture.proofs.Ways.{eleven_number, edge_number_lem, eleven_nothing}
use Rattle.picture.proofs.eleven_carries.Goals as goal

pub returns-then-q-lt11 : goal.returns-then-q-lt11
returns-then-q-lt11 c = search (eleven_number, rules)

pub returns-then-h-eq0 : goal.returns-then-h-eq0
returns-then-h-eq0 c = search (edge_number_lem, rules)

pub returns : goal.returns
returns c = search (eleven_nothing, rules)
