-- `packs::aaux::count_in` meets its contract: size by size. Assumes nothing.
use mathlib.Core.Path.{refl}
use borrow.Author.Tests.{ne_eqb}
use Prim.Native.Nat.{◌%◌}
use borrow.Author.Rules.{rules}
use Rattle.base.specs.Pick.{pick}
use Rattle.rules_packs.specs.Aaux.{count_of}
use Rattle.packs.proofs.aaux.count_in.Goals as goal

pub returns-in-20 : goal.returns-in-20
unfolding count_of pick
returns-in-20 c = rw c.in-20.is refl

pub returns-in-22 : goal.returns-in-22
unfolding count_of pick
returns-in-22 c = rw c.in-22.is refl

pub returns-in-24 : goal.returns-in-24
unfolding count_of pick
returns-in-24 c = rw c.in-24.is refl

pub returns-in_default : goal.returns-in_default
unfolding count_of pick
returns-in_default c = rw (ne_eqb (c.args.p.pc1 % 64) 20 (search rules), ne_eqb (c.args.p.pc1 % 64) 22 (search rules), ne_eqb (c.args.p.pc1 % 64) 24 (search rules)) refl
