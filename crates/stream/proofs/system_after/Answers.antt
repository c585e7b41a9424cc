-- `stream::system_after` meets its contract: the first part has the first block. Assumes nothing.
use borrow.Author.Rules.{rules}
use Rattle.stream.proofs.Inputs.{system_first, system_later}
use Rattle.stream.proofs.system_after.Goals as goal

pub returns-then-count-eq0 : goal.returns-then-count-eq0
returns-then-count-eq0 c = search (system_first, rules)

pub returns : goal.returns
returns c = search (system_later, rules)
