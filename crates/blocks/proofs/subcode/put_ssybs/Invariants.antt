use Rattle.base.proofs.Filling.{Filled}
use Rattle.blocks.proofs.Ways.{ssyb_at}
use Rattle.blocks.proofs.subcode.put_ssybs.Given as goal

abbrev pub invariant-loop-j : goal.invariant-loop-j
invariant-loop-j l = Filled 8 (ssyb_at l.first l.said l.k) l.j l.initial.part l.part
