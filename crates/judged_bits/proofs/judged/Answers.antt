-- `judged_bits::judged` meets its contract: 0, or by the law of the mask. Assumes nothing.
use borrow.Author.Rules.{rules}
use Rattle.judged_bits.proofs.Masked.{judged_long, judged_short}
use Rattle.judged_bits.proofs.judged.Goals as goal

pub returns-then-block-lt4 : goal.returns-then-block-lt4
returns-then-block-lt4 c = search (judged_short, rules)

pub returns : goal.returns
returns c = search (judged_long, rules)
