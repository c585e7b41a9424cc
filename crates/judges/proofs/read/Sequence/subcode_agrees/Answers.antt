-- `judges::read::Sequence::subcode_agrees` meets its contract: the loop has judged the SSYBs below k. Assumes nothing.
use Rattle.std.proofs.Common.{◌≡◌, rules, arith, refl}
use Rattle.judges.proofs.Turns.{ssyb_turn, ssyb_done}
use Rattle.judges.proofs.read.Sequence.subcode_agrees.Goals as goal

pub loop-k-preserved : goal.loop-k-preserved
loop-k-preserved c = search (ssyb_turn, rules)

pub returns : goal.returns
returns c =
    let all : c.loop-k.k ≡ 12 = omega arith in
    ssyb_done _ _ _ _ _ _ _ _ _ c.loop-k.invariant all refl c.half.ensures
