-- `packs::aaux::as_ok` meets its contract: by what the callees say. Assumes nothing.
use borrow.Author.Rules.{rules}
use Rattle.packs.proofs.Ways.{as_judged}
use Rattle.packs.proofs.aaux.as_ok.Goals as goal

pub returns : goal.returns
returns c = search (as_judged, rules)
