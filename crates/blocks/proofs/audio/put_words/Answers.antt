-- `blocks::audio::put_words` meets its contract: 0, and then the samples. Assumes nothing.
use borrow.Author.Rules.{rules}
use Rattle.blocks.proofs.Ways.{words_put_lem}
use Rattle.blocks.proofs.audio.put_words.Goals as goal

pub returns : goal.returns
returns c = search (words_put_lem, rules)
