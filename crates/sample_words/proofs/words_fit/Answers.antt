-- `sample_words::words_fit` meets its contract: by the system's numbers. Assumes nothing.
use borrow.Author.Rules.{rules}
use Rattle.sample_words.proofs.Ways.{fit_is}
use Rattle.sample_words.proofs.words_fit.Goals as goal

pub returns : goal.returns
returns c = search (fit_is, rules)
