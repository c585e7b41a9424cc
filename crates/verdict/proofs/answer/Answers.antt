-- `verdict::answer` meets its contract: the length is right or it is wrong. Assumes nothing.
use borrow.Author.Rules.{rules}
use Rattle.verdict.proofs.Answers.{answers_right, answers_wrong}
use Rattle.verdict.proofs.answer.Goals as goal

pub returns-in-Right : goal.returns-in-Right
returns-in-Right c = search (answers_right, rules)

pub returns-in-Wrong : goal.returns-in-Wrong
returns-in-Wrong c = search (answers_wrong, rules)
