-- `sequence_samples::take_block` meets its contract: the block's words are its samples. Assumes nothing.
use borrow.Author.Rules.{rules}
use Rattle.sequence_samples.proofs.Ways.{step_fits, words_asked, block_taken}
use Rattle.sequence_samples.proofs.take_block.Goals as goal

pub overflow_mul-step : goal.overflow_mul-step
overflow_mul-step c = search (step_fits, rules)

pub put_words-requires : goal.put_words-requires
put_words-requires c = search (words_asked, rules)

pub returns : goal.returns
returns c = search (block_taken, rules)
