-- `blocks::subcode::put_ssybs` meets its contract: the first SSYBs are written, and the rest is as it was. Assumes nothing.
use borrow.Author.Rules.{rules}
use Rattle.base.proofs.Filling.{filled_none}
use Rattle.blocks.proofs.Ways.{ssybs_turn, ssybs_done}
use Rattle.blocks.proofs.subcode.put_ssybs.Goals as goal

pub loop-j-init : goal.loop-j-init
loop-j-init c = filled_none 8 _ _

pub loop-j-preserved : goal.loop-j-preserved
loop-j-preserved c = search (ssybs_turn, rules)

pub returns : goal.returns
returns c = search (ssybs_done, rules)
