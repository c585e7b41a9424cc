-- `blocks::header::put_header` meets its contract: the block, or the part as it was. Assumes nothing.
use borrow.Author.Rules.{rules}
use Rattle.blocks.proofs.Fitting.{size_stays, size_fills}
use Rattle.blocks.proofs.header.put_header.Goals as goal

pub returns-then-block-eq-BLOCK : goal.returns-then-block-eq-BLOCK
returns-then-block-eq-BLOCK c = search (size_fills, rules)

pub returns-else-block-eq-BLOCK : goal.returns-else-block-eq-BLOCK
returns-else-block-eq-BLOCK c = search (size_stays, rules)
