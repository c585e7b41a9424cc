-- `layout::ids::read_id` meets its contract: one lemma for each way out. Assumes nothing.
use borrow.Author.Rules.{rules}
use Rattle.layout.proofs.Reading.{wrong_length, reserved, named}
use Rattle.layout.proofs.ids.read_id.Goals as goal

pub returns-then-id-ne3 : goal.returns-then-id-ne3
returns-then-id-ne3 c = search (wrong_length, rules)

pub returns-then-byte0-lt5 : goal.returns-then-byte0-lt5
returns-then-byte0-lt5 c = search (named, rules)

pub returns : goal.returns
returns c = search (reserved, rules)
