-- `blocks::subcode::fr_byte` meets its contract: FR is 1 in the first half. Assumes nothing.
use mathlib.Core.Path.{refl}
use Rattle.base.specs.Pick.{pick}
use Rattle.blocks.proofs.subcode.fr_byte.Goals as goal

pub returns-then-first : goal.returns-then-first
unfolding pick
returns-then-first c = rw c.if-first.true refl

pub returns-else-first : goal.returns-else-first
unfolding pick
returns-else-first c = rw c.if-first.false refl
