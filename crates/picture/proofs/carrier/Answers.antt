-- `picture::carrier` meets its contract: each way out. Assumes nothing.
use Rattle.std.proofs.Common.{rules}
use Rattle.picture.proofs.Ways.{eleven_lies, ten_lies}
use Rattle.picture.proofs.carrier.Goals as goal

pub returns-then-eleven_rows : goal.returns-then-eleven_rows
returns-then-eleven_rows c = search (eleven_lies, rules)

pub returns-else-eleven_rows : goal.returns-else-eleven_rows
returns-else-eleven_rows c = search (ten_lies, rules)
