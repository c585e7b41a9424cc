-- `packs::subcode::kind_of` meets its contract: position by position, and none elsewhere. Assumes nothing.
use mathlib.Core.Path.{refl}
use borrow.Author.Rules.{rules}
use Rattle.rules_packs.specs.Subcode.{kind_of}
use Rattle.packs.proofs.Ways.{none_first, none_second}
use Rattle.packs.proofs.subcode.kind_of.Goals as goal

pub returns-in-3 : goal.returns-in-3
unfolding kind_of
returns-in-3 c = rw (c.if-first.true, c.in-3.is) refl

pub returns-in-4 : goal.returns-in-4
unfolding kind_of
returns-in-4 c = rw (c.if-first.true, c.in-4.is) refl

pub returns-in-5 : goal.returns-in-5
unfolding kind_of
returns-in-5 c = rw (c.if-first.true, c.in-5.is) refl

pub returns-in-9 : goal.returns-in-9
unfolding kind_of
returns-in-9 c = rw (c.if-first.true, c.in-9.is) refl

pub returns-in-10 : goal.returns-in-10
unfolding kind_of
returns-in-10 c = rw (c.if-first.true, c.in-10.is) refl

pub returns-in-11 : goal.returns-in-11
unfolding kind_of
returns-in-11 c = rw (c.if-first.true, c.in-11.is) refl

pub returns-in_default : goal.returns-in_default
returns-in_default c = search (none_first, rules)

pub returns-in-3-k : goal.returns-in-3-k
unfolding kind_of
returns-in-3-k c = rw (c.if-first.false, c.in-3-k.is) refl

pub returns-in-9-k : goal.returns-in-9-k
unfolding kind_of
returns-in-9-k c = rw (c.if-first.false, c.in-9-k.is) refl

pub returns-in_default-k : goal.returns-in_default-k
returns-in_default-k c = search (none_second, rules)
