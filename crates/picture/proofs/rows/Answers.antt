-- `picture::rows` meets its contract: each way out. Assumes nothing.
use Rattle.std.proofs.Common.{rules}
use Rattle.picture.proofs.Ways.{eleven_carried, ten_carried}
use Rattle.picture.proofs.rows.Goals as goal

pub returns-then-eleven_rows : goal.returns-then-eleven_rows
returns-then-eleven_rows c = search (eleven_carried, rules)

pub returns-else-eleven_rows : goal.returns-else-eleven_rows
returns-else-eleven_rows c = search (ten_carried, rules)
