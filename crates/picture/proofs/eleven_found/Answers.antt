-- `picture::eleven_found` meets its contract: each way out. Assumes nothing.
use borrow.Author.Rules.{rules}
use Rattle.picture.proofs.Ways.{eleven_in, edge_in, eleven_past}
use Rattle.picture.proofs.eleven_found.Goals as goal

pub returns-then-b-lt5940 : goal.returns-then-b-lt5940
returns-then-b-lt5940 c = search (eleven_in, rules)

pub returns-then-b-lt6075 : goal.returns-then-b-lt6075
returns-then-b-lt6075 c = search (edge_in, rules)

pub returns : goal.returns
returns c = search (eleven_past, rules)
