-- `FaultList::survey_next` meets its contract: one lemma for each way out. Assumes nothing.
use mathlib.Core.Path.{refl}
use borrow.Author.Rules.{rules}
use Rattle.fault_list.proofs.Next.{next_outside, next_wrong_length, next_full, next_clean, next_surveyed, next_asked}
use Rattle.fault_list.proofs.list.FaultList.survey_next.Goals as goal

pub returns-then-outside : goal.returns-then-outside
returns-then-outside c = record { lent = refl; noted = search (next_outside, rules) }

pub returns-then-part-ne-SEQUENCE : goal.returns-then-part-ne-SEQUENCE
returns-then-part-ne-SEQUENCE c = record { lent = refl; noted = search (next_wrong_length, rules) }

pub returns-then-self-ge8000 : goal.returns-then-self-ge8000
returns-then-self-ge8000 c = record { lent = refl; noted = search (next_full, rules) }

pub returns-then-clean_part : goal.returns-then-clean_part
returns-then-clean_part c = record { lent = refl; noted = search (next_clean, rules) }

pub survey_part-requires : goal.survey_part-requires
survey_part-requires c = search (next_asked, rules)

pub returns : goal.returns
returns c = record { lent = c.survey_part.ensures.lent; noted = search (next_surveyed, rules) }
