-- `replacer::replace_block` meets its contract: its words from byte 8 on. Assumes nothing.
use borrow.Author.Rules.{rules}
use Rattle.replacer.proofs.Ways.{block_put}
use Rattle.replacer.proofs.replace_block.Goals as goal

pub returns : goal.returns
returns c = search (block_put, rules)
