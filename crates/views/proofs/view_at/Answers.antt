-- `views::view_at` meets its contract: a refusal, or the part. Assumes nothing.
use borrow.Author.Rules.{rules}
use Rattle.views.proofs.Ways.{view_refused}
use Rattle.views.proofs.view_at.Goals as goal

pub returns-in-Err : goal.returns-in-Err
returns-in-Err c = search (view_refused, c.in-Err.ensures.said, rules)
