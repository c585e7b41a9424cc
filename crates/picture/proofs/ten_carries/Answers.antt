-- `picture::ten_carries` meets its contract: each way out. Assumes nothing.
use Rattle.std.proofs.Common.{rules}
use Rattle.picture.proofs.Ways.{ten_number, ten_nothing}
use Rattle.picture.proofs.ten_carries.Goals as goal

pub returns-then-q-lt10 : goal.returns-then-q-lt10
returns-then-q-lt10 c = search (ten_number, rules)

pub returns : goal.returns
returns c = search (ten_nothing, rules)
