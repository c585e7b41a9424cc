-- `first_fault::first_fault` meets its contract: one lemma for each way out. Assumes nothing.
use borrow.Author.Rules.{rules}
use Rattle.first_fault.proofs.Ways.{first_wrong_length, first_found}
use Rattle.first_fault.proofs.first_fault.Goals as goal

pub returns-then-frame-frame_bytes : goal.returns-then-frame-frame_bytes
returns-then-frame-frame_bytes c = search (first_wrong_length, rules)

pub returns : goal.returns
returns c = search (first_found, rules)
