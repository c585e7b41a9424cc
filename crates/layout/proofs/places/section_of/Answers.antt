-- `layout::places::section_of` meets its contract: number by number. Assumes nothing.
use mathlib.Core.Path.{refl}
use borrow.Author.Tests.{ne_eqb}
use borrow.Author.Rules.{rules}
use Rattle.base.specs.Pick.{pick}
use Rattle.rules_format.specs.Places.{section_of}
use Rattle.layout.proofs.places.section_of.Goals as goal

pub returns-in-0 : goal.returns-in-0
unfolding section_of pick
returns-in-0 c = rw c.in-0.is refl

pub returns-in-1 : goal.returns-in-1
unfolding section_of pick
returns-in-1 c = rw c.in-1.is refl

pub returns-in-2 : goal.returns-in-2
unfolding section_of pick
returns-in-2 c = rw c.in-2.is refl

pub returns-in-3 : goal.returns-in-3
unfolding section_of pick
returns-in-3 c = rw c.in-3.is refl

pub returns-in_default : goal.returns-in_default
unfolding section_of pick
returns-in_default c = rw (ne_eqb c.args.code 0 (search rules), ne_eqb c.args.code 1 (search rules), ne_eqb c.args.code 2 (search rules), ne_eqb c.args.code 3 (search rules)) refl
