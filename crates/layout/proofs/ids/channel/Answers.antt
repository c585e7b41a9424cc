-- `layout::ids::channel` meets its contract: by the two bits. Assumes nothing.
use mathlib.Core.Path.{refl}
use borrow.Author.Tests.{eq-eqb, ne_eqb}
use Rattle.base.specs.Pick.{pick}
use Rattle.rules_format.specs.Ids.{channel_of}
use Rattle.layout.proofs.ids.channel.Goals as goal

pub returns-then-fsc-eq0 : goal.returns-then-fsc-eq0
unfolding channel_of pick
returns-then-fsc-eq0 c = rw (eq-eqb _ _ c.if-fsp-eq1.true, eq-eqb _ _ c.if-fsc-eq0.true) refl

pub returns-else-fsc-eq0 : goal.returns-else-fsc-eq0
unfolding channel_of pick
returns-else-fsc-eq0 c = rw (eq-eqb _ _ c.if-fsp-eq1.true, ne_eqb _ _ c.if-fsc-eq0.false) refl

pub returns-then-fsc-eq0-2 : goal.returns-then-fsc-eq0-2
unfolding channel_of pick
returns-then-fsc-eq0-2 c = rw (ne_eqb _ _ c.if-fsp-eq1.false, eq-eqb _ _ c.if-fsc-eq0-2.true) refl

pub returns-else-fsc-eq0-2 : goal.returns-else-fsc-eq0-2
unfolding channel_of pick
returns-else-fsc-eq0-2 c = rw (ne_eqb _ _ c.if-fsp-eq1.false, ne_eqb _ _ c.if-fsc-eq0-2.false) refl
