-- `report::text` meets its contract: i lines stand behind each other. Assumes nothing.
use borrow.Author.Rules.{rules}
use Rattle.report.proofs.Texts.{text_narrow, text_start, text_turn, text_done}
use Rattle.report.proofs.text.Goals as goal

pub returns-then-out-lt-ROOM : goal.returns-then-out-lt-ROOM
returns-then-out-lt-ROOM c = search (text_narrow, rules)

pub loop-i-init : goal.loop-i-init
loop-i-init c = search (text_start, rules)

pub loop-i-preserved : goal.loop-i-preserved
loop-i-preserved c = search (text_turn, rules)

pub returns : goal.returns
returns c = search (text_done, rules)
