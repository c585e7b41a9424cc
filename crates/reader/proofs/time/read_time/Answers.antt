-- `reader::time::read_time` meets its contract: one lemma for each way out. Assumes nothing.
use borrow.Author.Rules.{rules}
use Rattle.reader.proofs.Ways.{time_stops, time_answered}
use Rattle.reader.proofs.time.read_time.Goals as goal

pub returns-in-Err : goal.returns-in-Err
returns-in-Err c = search (time_stops, c.in-Err.ensures.said, rules)

pub returns : goal.returns
returns c = search (time_answered, c.in-Ok.ensures.said, c.in-Ok.ensures.known, rules)
