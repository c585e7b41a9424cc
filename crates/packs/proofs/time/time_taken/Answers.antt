-- `packs::time::time_taken` meets its contract: by the rate and the clock. Assumes nothing.
use borrow.Author.Rules.{rules}
use Rattle.packs.proofs.Ways.{taken_way}
use Rattle.packs.proofs.time.time_taken.Goals as goal

pub returns : goal.returns
returns c = search (taken_way, rules)
