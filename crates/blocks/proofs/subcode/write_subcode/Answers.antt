-- `blocks::subcode::write_subcode` meets its contract: ones, the ID, and six SSYBs. Assumes nothing.
use borrow.Author.Rules.{rules}
use Rattle.blocks.proofs.Ways.{subcode_done}
use Rattle.blocks.proofs.subcode.write_subcode.Goals as goal

pub returns : goal.returns
returns c = search (subcode_done, rules)
