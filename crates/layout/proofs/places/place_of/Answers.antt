-- `layout::places::place_of` meets its contract: a place of the 150, or none. Assumes nothing.
use borrow.Author.Rules.{rules}
use Rattle.layout.proofs.Placing.{nowhere_way, at_way}
use Rattle.layout.proofs.places.place_of.Goals as goal

pub returns-then-p-ge-PLACES : goal.returns-then-p-ge-PLACES
returns-then-p-ge-PLACES c = search (nowhere_way, rules)

pub returns : goal.returns
returns c = search (at_way, rules)
