-- `packs::aaux::aaux_pack` meets its contract: the pair from AS on. Assumes nothing.
use borrow.Author.Rules.{rules}
use Rattle.packs.proofs.Ways.{pair_from}
use Rattle.packs.proofs.aaux.aaux_pack.Goals as goal

pub returns : goal.returns
returns c = search (pair_from, rules)
