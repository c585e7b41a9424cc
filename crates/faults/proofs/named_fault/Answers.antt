-- `faults::named_fault` meets its contract: one lemma for each way out. Assumes nothing.
use borrow.Author.Rules.{rules}
use Rattle.faults.proofs.Naming.{other_section, other_channel, other_dseq, other_number, all_named}
use Rattle.faults.proofs.named_fault.Goals as goal

pub returns-then-ne : goal.returns-then-ne
returns-then-ne c = search (other_section, rules)

pub returns-then-b-dif : goal.returns-then-b-dif
returns-then-b-dif c = search (other_channel, rules)

pub returns-then-b-dif-2 : goal.returns-then-b-dif-2
returns-then-b-dif-2 c = search (other_dseq, rules)

pub returns-then-ne-2 : goal.returns-then-ne-2
returns-then-ne-2 c = search (other_number, rules)

pub returns : goal.returns
returns c = search (all_named, rules)
