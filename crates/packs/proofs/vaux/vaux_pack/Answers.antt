-- `packs::vaux::vaux_pack` meets its contract: the pair from VS on. Assumes nothing.
use borrow.Author.Rules.{rules}
use Rattle.packs.proofs.Ways.{pair_from}
use Rattle.packs.proofs.vaux.vaux_pack.Goals as goal

pub returns : goal.returns
returns c = search (pair_from, rules)
