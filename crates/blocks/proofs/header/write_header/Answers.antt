-- `blocks::header::write_header` meets its contract: ones, the ID, and the listed bytes. Assumes nothing.
use borrow.Author.Rules.{rules}
use Rattle.blocks.proofs.Ways.{header_done}
use Rattle.blocks.proofs.header.write_header.Goals as goal

pub returns : goal.returns
returns c = search (header_done, rules)
