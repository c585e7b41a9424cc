-- `FaultList::note` meets its contract: a record is stored where there is room, none where there is not. Assumes nothing.
use mathlib.Core.Path.{refl}
use borrow.Author.Rules.{rules}
use Rattle.fault_list.proofs.Noting.{note_stored, note_full}
use Rattle.fault_list.proofs.list.FaultList.note.Goals as goal

pub returns-then-self-at : goal.returns-then-self-at
returns-then-self-at c = record { lent = refl; noted = search (note_full, rules) }

pub returns : goal.returns
returns c = record { lent = refl; noted = search (note_stored, rules) }
