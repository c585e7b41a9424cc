-- `picture::carried` meets its contract: each way out. Assumes nothing.
use Rattle.picture.proofs.Ways.{inside, outside}
use Rattle.picture.proofs.carried.Goals as goal

pub returns-then-s-lt135 : goal.returns-then-s-lt135
returns-then-s-lt135 c = inside _ _ _ c.if-s-lt4.true c.if-s-lt135.true c.rows.ensures

pub returns-else-s-lt4 : goal.returns-else-s-lt4
returns-else-s-lt4 c = outside _ _ c.else-s-lt4.either
