-- `text::put_number` meets its contract: the digits are the fewest, and at most ten. Assumes nothing.
use borrow.Author.Rules.{rules}
use Rattle.text.proofs.Writing.{number_asks, number_put}
use Rattle.text.proofs.put_number.Goals as goal

pub put_bytes-requires : goal.put_bytes-requires
put_bytes-requires c = search (number_asks, rules)

pub returns : goal.returns
returns c = search (number_put, rules)
