-- `text::put_fields` meets its contract: i fields stand behind each other. Assumes nothing.
use borrow.Author.Rules.{rules}
use Rattle.text.proofs.Writing.{fields_start, fields_turn}
use Rattle.text.proofs.put_fields.Goals as goal

pub loop-x-init : goal.loop-x-init
loop-x-init c = search (fields_start, rules)

pub loop-x-preserved : goal.loop-x-preserved
loop-x-preserved c = search (fields_turn, rules)
