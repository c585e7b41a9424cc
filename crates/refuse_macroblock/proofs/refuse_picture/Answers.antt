-- `refuse_macroblock::refuse_picture` meets its contract: by its one row. Assumes nothing.
use borrow.Author.Rules.{rules}
use Rattle.refuse_macroblock.proofs.Ways.{picture_marked, picture_passes}
use Rattle.refuse_macroblock.proofs.refuse_picture.Goals as goal

pub returns-then-not-every_sequence : goal.returns-then-not-every_sequence
returns-then-not-every_sequence c = search (picture_marked, rules)

pub returns : goal.returns
returns c = search (picture_passes, rules)
