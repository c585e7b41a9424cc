-- `packs::vaux::vs_ok` meets its contract: by what the callees say. Assumes nothing.
use borrow.Author.Rules.{rules}
use Rattle.packs.proofs.Ways.{vs_judged}
use Rattle.packs.proofs.vaux.vs_ok.Goals as goal

pub returns : goal.returns
returns c = search (vs_judged, rules)
