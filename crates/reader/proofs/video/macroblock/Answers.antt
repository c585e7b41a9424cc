-- `reader::video::macroblock` meets its contract: the part that macroblock_at says, lent. Assumes nothing.
use borrow.Author.Rules.{rules}
use Rattle.reader.proofs.Ways.{part_ends, part_read}
use Rattle.reader.proofs.video.macroblock.Goals as goal

pub slice_bounds-result-end : goal.slice_bounds-result-end
slice_bounds-result-end c = search (part_ends, rules)

pub returns : goal.returns
returns c = search (part_read, rules)
