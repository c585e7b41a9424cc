-- `views::view` meets its contract: the part that view_at says, lent. Assumes nothing.
use borrow.Author.Rules.{rules}
use Rattle.views.proofs.Ways.{part_ends, part_viewed}
use Rattle.views.proofs.view.Goals as goal

pub slice_bounds-result-end : goal.slice_bounds-result-end
slice_bounds-result-end c = search (part_ends, rules)

pub returns : goal.returns
returns c = search (part_viewed, rules)
