-- `packs::bytes::pair_at` meets its contract: one lemma for each way out. Assumes nothing.
use borrow.Author.Rules.{rules}
use Rattle.packs.proofs.Ways.{source_way, control_way, none_way}
use Rattle.packs.proofs.bytes.pair_at.Goals as goal

pub returns-then-k-at : goal.returns-then-k-at
returns-then-k-at c = search (source_way, rules)

pub returns-then-k-at-2 : goal.returns-then-k-at-2
returns-then-k-at-2 c = search (control_way, rules)

pub returns : goal.returns
returns c = search (none_way, rules)
