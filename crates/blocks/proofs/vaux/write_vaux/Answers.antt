-- `blocks::vaux::write_vaux` meets its contract: ones, the ID, and fifteen packs. Assumes nothing.
use borrow.Author.Rules.{rules}
use Rattle.blocks.proofs.Ways.{vaux_done}
use Rattle.blocks.proofs.vaux.write_vaux.Goals as goal

pub returns : goal.returns
returns c = search (vaux_done, rules)
