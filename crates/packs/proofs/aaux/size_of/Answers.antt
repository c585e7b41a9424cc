-- `packs::aaux::size_of` meets its contract: count by count. Assumes nothing.
use mathlib.Core.Path.{refl}
use borrow.Author.Tests.{ne_eqb}
use borrow.Author.Rules.{rules}
use Rattle.base.specs.Pick.{pick}
use Rattle.rules_packs.specs.Aaux.{size_of}
use Rattle.packs.proofs.aaux.size_of.Goals as goal

pub returns-in-1600 : goal.returns-in-1600
unfolding size_of pick
returns-in-1600 c = rw c.in-1600.is refl

pub returns-in-1602 : goal.returns-in-1602
unfolding size_of pick
returns-in-1602 c = rw c.in-1602.is refl

pub returns-in_default : goal.returns-in_default
unfolding size_of pick
returns-in_default c = rw (ne_eqb c.args.count 1600 (search rules), ne_eqb c.args.count 1602 (search rules)) refl
