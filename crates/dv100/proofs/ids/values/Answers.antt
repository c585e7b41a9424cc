-- `dv100::ids::values` meets its contract: one lemma for each answer. Assumes nothing.
use borrow.Author.Rules.{rules}
use Rattle.dv100.proofs.Ways.{values_named, values_reserved, values_wrong}
use Rattle.dv100.proofs.ids.values.Goals as goal

pub returns-in-Named : goal.returns-in-Named
returns-in-Named c = search (values_named, rules)

pub returns-in-Reserved : goal.returns-in-Reserved
returns-in-Reserved c = search (values_reserved, rules)

pub returns-in-WrongLength : goal.returns-in-WrongLength
returns-in-WrongLength c = search (values_wrong, rules)
