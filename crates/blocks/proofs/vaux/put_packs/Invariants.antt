use Rattle.base.proofs.Filling.{Filled}
use Rattle.blocks.proofs.Ways.{pack_at}
use Rattle.blocks.proofs.vaux.put_packs.Given as goal

abbrev pub invariant-loop-j : goal.invariant-loop-j
invariant-loop-j l = Filled 5 (pack_at l.vs l.vsc l.q l.k) l.j l.initial.part l.part
