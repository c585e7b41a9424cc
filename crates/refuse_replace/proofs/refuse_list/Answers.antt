-- `refuse_replace::refuse_list` meets its contract: one lemma for each row. Assumes nothing.
use borrow.Author.Rules.{rules}
use Rattle.refuse_replace.proofs.Ways.{list_29, list_31, list_33, list_0}
use Rattle.refuse_replace.proofs.refuse_list.Goals as goal

pub returns-then-samples-count : goal.returns-then-samples-count
returns-then-samples-count c = search (list_29, rules)

pub returns-then-not-all_in_range : goal.returns-then-not-all_in_range
returns-then-not-all_in_range c = search (list_31, rules)

pub returns-then-is_mark : goal.returns-then-is_mark
returns-then-is_mark c = search (list_33, rules)

pub returns : goal.returns
returns c = search (list_0, rules)
