-- `packs::frame::repeated` meets its contract: pack by pack. Assumes nothing.
use borrow.Author.Rules.{rules}
use Rattle.packs.proofs.Ways.{repeated_made}
use Rattle.packs.proofs.frame.repeated.Goals as goal

pub returns : goal.returns
returns c = search (repeated_made, rules)
