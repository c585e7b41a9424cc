-- `dv100::dv100_read_id` meets its contract: the values of what `read_id` answers. Assumes nothing.
use borrow.Author.Rules.{rules}
use Rattle.dv100.proofs.Ways.{values_said}
use Rattle.dv100.proofs.dv100_read_id.Goals as goal

pub returns : goal.returns
returns c = search (values_said, rules)
