-- `packs::vaux::vs_at` meets its contract: by the sequence's parity. Assumes nothing.
use mathlib.Core.Path.{refl}
use borrow.Author.Tests.{ne_eqb}
use Rattle.base.specs.Pick.{pick}
use Rattle.rules_packs.specs.Vaux.{vs_at}
use Rattle.packs.proofs.vaux.vs_at.Goals as goal

pub returns-then-q-eq0 : goal.returns-then-q-eq0
unfolding vs_at pick
returns-then-q-eq0 c = rw c.if-q-eq0.true refl

pub returns-else-q-eq0 : goal.returns-else-q-eq0
unfolding vs_at pick
returns-else-q-eq0 c = rw (ne_eqb _ _ c.if-q-eq0.false) refl
