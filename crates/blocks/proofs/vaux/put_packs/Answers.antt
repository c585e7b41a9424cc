-- `blocks::vaux::put_packs` meets its contract: the first packs are written, and the rest is as it was. Assumes nothing.
use borrow.Author.Rules.{rules}
use Rattle.base.proofs.Filling.{filled_none}
use Rattle.blocks.proofs.Ways.{packs_turn, packs_done}
use Rattle.blocks.proofs.vaux.put_packs.Goals as goal

pub loop-j-init : goal.loop-j-init
loop-j-init c = filled_none 5 _ _

pub loop-j-preserved : goal.loop-j-preserved
loop-j-preserved c = search (packs_turn, rules)

pub returns : goal.returns
returns c = search (packs_done, rules)
