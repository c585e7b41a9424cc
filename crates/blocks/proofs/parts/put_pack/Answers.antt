-- `blocks::parts::put_pack` meets its contract: the five bytes in their order. Assumes nothing.
use native.Mathlib.Omega.{arith}
use lib.ListN.{length-set}
use borrow.Author.Rules.{rules}
use Rattle.blocks.proofs.Ways.{five_set}
use Rattle.blocks.proofs.parts.put_pack.Goals as goal

pub bounds-part-4 : goal.bounds-part-4
bounds-part-4 c = simp length-set (omega arith)

pub returns : goal.returns
returns c = search (five_set, rules)
