-- `views::view_number` meets its contract: the number that view_at answers. Assumes nothing.
use borrow.Author.Rules.{rules}
use Rattle.views.proofs.Ways.{part_numbered}
use Rattle.views.proofs.view_number.Goals as goal

pub returns : goal.returns
returns c = search (part_numbered, rules)
