-- `reader::video::macroblock_at` meets its contract: one lemma for each way out. Assumes nothing.
use borrow.Author.Rules.{rules}
use Rattle.reader.proofs.Ways.{lies_refused, lies_somewhere, slot_asked, lies_found}
use Rattle.reader.proofs.video.macroblock_at.Goals as goal

pub returns-in-Err : goal.returns-in-Err
returns-in-Err c = search (lies_refused, c.in-Err.ensures.said, rules)

pub unwrap-s-requires : goal.unwrap-s-requires
unwrap-s-requires c = rw c.carrier.ensures (search (lies_somewhere, c.in-Ok.ensures.said, c.in-Ok.ensures.known, rules))

pub slot_start-requires : goal.slot_start-requires
slot_start-requires c = search (slot_asked, c.in-Ok.ensures.said, c.in-Ok.ensures.known, rules)

pub returns : goal.returns
returns c = search (lies_found, c.in-Ok.ensures.said, c.in-Ok.ensures.known, rules)
