-- `report::record_line` meets its contract: the list holds the record or it does not. Assumes nothing.
use mathlib.Core.Logic.{inl, inr}
use native.Mathlib.Omega.{arith}
use borrow.Author.Rules.{rules}
use Rattle.report.proofs.Ways.{record_none, record_printed}
use Rattle.report.proofs.record_line.Goals as goal

pub returns-in-Some : goal.returns-in-Some
returns-in-Some c = search (record_printed, c.in-Some.ensures.lookup, rules)

pub returns-in-None : goal.returns-in-None
returns-in-None c = record_none c.args.list.now c.args.i c.args.out.now (elim c.in-None.ensures.lookup.0 [ inl l ↦ absurd (omega arith) | inr l ↦ l ])
