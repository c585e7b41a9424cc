-- `judges::every::every_from` meets its contract: the loop has judged the sequences below q + r. Assumes nothing.
use Rattle.std.proofs.Common.{rules}
use Rattle.judges.proofs.Turns.{from_turn, start_holds}
use Rattle.judges.proofs.every.every_from.Goals as goal

pub loop-r-init : goal.loop-r-init
loop-r-init c = start_holds _ _ _ _ _

pub loop-r-preserved : goal.loop-r-preserved
loop-r-preserved c = search (from_turn, rules)
