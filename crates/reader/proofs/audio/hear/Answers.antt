-- `reader::audio::hear` meets its contract: lost where the channel is marked, else its words. Assumes nothing.
use borrow.Author.Rules.{rules}
use Rattle.reader.proofs.Ways.{hears_lost, hears_words}
use Rattle.reader.proofs.audio.hear.Goals as goal

pub returns-then-marked : goal.returns-then-marked
returns-then-marked c = search (hears_lost, rules)

pub returns-else-marked : goal.returns-else-marked
returns-else-marked c = search (hears_words, rules)
