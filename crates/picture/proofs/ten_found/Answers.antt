-- `picture::ten_found` meets its contract: each way out. Assumes nothing.
use borrow.Author.Rules.{rules}
use Rattle.picture.proofs.Ways.{ten_in, ten_past}
use Rattle.picture.proofs.ten_found.Goals as goal

pub returns-then-b-lt5400 : goal.returns-then-b-lt5400
returns-then-b-lt5400 c = search (ten_in, rules)

pub returns : goal.returns
returns c = search (ten_past, rules)
