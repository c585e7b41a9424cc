-- `packs::time::clock_ok` meets its contract: by the system's last frame. Assumes nothing.
use borrow.Author.Rules.{rules}
use Rattle.packs.proofs.Ways.{clock_way}
use Rattle.packs.proofs.time.clock_ok.Goals as goal

pub returns : goal.returns
returns c = search (clock_way, rules)
