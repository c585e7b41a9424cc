-- `sample_words::put_samples` meets its contract: by the sound rule, or the part as it was. Assumes nothing.
use borrow.Author.Rules.{rules}
use Rattle.sample_words.proofs.Ways.{stays, words_asked, words_are}
use Rattle.sample_words.proofs.put_samples.Goals as goal

pub returns-then-not-words_fit : goal.returns-then-not-words_fit
returns-then-not-words_fit c = search (stays, rules)

pub put_words-requires : goal.put_words-requires
put_words-requires c = search (words_asked, rules)

pub returns : goal.returns
returns c = search (words_are, rules)
