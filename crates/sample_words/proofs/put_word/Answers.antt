-- `sample_words::put_word` meets its contract: the high byte first. Assumes nothing.
use borrow.Author.Rules.{rules}
use Rattle.sample_words.proofs.Ways.{two_set}
use Rattle.sample_words.proofs.put_word.Goals as goal

pub returns : goal.returns
returns c = search (two_set, rules)
