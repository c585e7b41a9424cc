-- `blocks::vaux::put_vaux` meets its contract: the block, or the part as it was. Assumes nothing.
use borrow.Author.Rules.{rules}
use Rattle.blocks.proofs.Fitting.{number_stays, number_fills, number_asked}
use Rattle.blocks.proofs.vaux.put_vaux.Goals as goal

pub write_vaux-requires : goal.write_vaux-requires
write_vaux-requires c = search (number_asked, rules)

pub returns-then-fits : goal.returns-then-fits
returns-then-fits c = search (number_fills, rules)

pub returns-else-fits : goal.returns-else-fits
returns-else-fits c = search (number_stays, rules)
