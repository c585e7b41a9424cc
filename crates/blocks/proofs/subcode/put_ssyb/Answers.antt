-- `blocks::subcode::put_ssyb` meets its contract: three bytes, then the pack of its position. Assumes nothing.
use borrow.Author.Rules.{rules}
use Rattle.blocks.proofs.Ways.{ssyb_done}
use Rattle.blocks.proofs.subcode.put_ssyb.Goals as goal

pub returns : goal.returns
returns c = search (ssyb_done, rules)
