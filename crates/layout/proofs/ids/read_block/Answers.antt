-- `layout::ids::read_block` meets its contract: a short block is all of its ID, and of a longer one the first three bytes are lent. Assumes nothing.
use mathlib.Core.Path.{sym}
use lib.Seq.{length-take-le}
use borrow.Author.Rules.{rules}
use Rattle.layout.proofs.Reading.{short_block}
use Rattle.layout.proofs.ids.read_block.Goals as goal

pub returns-then-block-lt3 : goal.returns-then-block-lt3
returns-then-block-lt3 c = search (short_block, rules)

pub slice_bounds-read_id-end : goal.slice_bounds-read_id-end
slice_bounds-read_id-end c = sym (length-take-le 3 c.args.block.now (search rules))
