-- `rescue::call::salvage` meets its contract: a refusal, or every audio channel. Assumes nothing.
use mathlib.Core.Path.{refl}
use borrow.Author.Rules.{rules}
use Rattle.rescue.proofs.Whole.{salvage_stopped, salvage_done}
use Rattle.rescue.proofs.call.salvage.Goals as goal

pub returns-in-Err : goal.returns-in-Err
returns-in-Err c = search (salvage_stopped, c.in-Err.ensures.said, rules)

pub invariant_of-whole : goal.invariant_of-whole
invariant_of-whole c = record { whole = c.in-Ok.ensures.known.lies.whole }

pub salvage_all-requires : goal.salvage_all-requires
salvage_all-requires c = record { room = c.in-Ok.ensures.known.room; first = refl }

pub returns : goal.returns
returns c = search (salvage_done, c.in-Ok.ensures.known, c.in-Ok.ensures.said, rules)
