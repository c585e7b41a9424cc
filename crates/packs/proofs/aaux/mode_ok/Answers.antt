-- `packs::aaux::mode_ok` meets its contract: by what the callees say. Assumes nothing.
use borrow.Author.Rules.{rules}
use Rattle.packs.proofs.Ways.{mode_judged}
use Rattle.packs.proofs.aaux.mode_ok.Goals as goal

pub returns : goal.returns
returns c = search (mode_judged, rules)
