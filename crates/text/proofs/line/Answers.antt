-- `text::line` meets its contract: it does not fit, or it is a letter, the fields and a newline. Assumes nothing.
use borrow.Author.Rules.{rules}
use Rattle.text.proofs.Writing.{line_many, line_narrow, line_done}
use Rattle.text.proofs.line.Goals as goal

pub returns-then-fields-gt5 : goal.returns-then-fields-gt5
returns-then-fields-gt5 c = search (line_many, rules)

pub returns-then-out-lt64 : goal.returns-then-out-lt64
returns-then-out-lt64 c = search (line_narrow, rules)

pub returns : goal.returns
returns c = search (line_done, rules)
